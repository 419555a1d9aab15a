-- The names whose numbers are told stand at them.
use Rattle.std.proofs.Common.{◌≡◌, ℕ, ◌≤◌, Bool, true, false, not, cond, List, [], ◌∷◌, ◌++◌, refl}
use Rattle.std.proofs.Common.{sym, ap, ◌∙◌, Option, Some, None, arith, ◌||◌, ◌==◌, nat_le, max}
use Rattle.std.proofs.Common.{bytes_eq, eq-eqb, leb-true, option_map}
use Rattle.std.specs.List.{find}
use Rattle.std.specs.Option.{option_or}
use Rattle.std.proofs.lemmas.Bool.{and_parts}
use Rattle.std.proofs.lemmas.List.Folds.{find-append, list_any-append}
use Rattle.std.proofs.lemmas.List.Sums.{fold-append}
use Rattle.linx_base.specs.NameText.{is_name}
use Rattle.text_names.specs.declared.told_names.Numbered.{Numbered}
use Rattle.text_names.specs.declared.told_names.Told.{Told}
use Rattle.text_names.specs.FirstWords.{Words, first_words}
use Rattle.text_names.specs.Naming.{link_told, node_told}
use Rattle.text_names.specs.Numbering.{highest, told_name}
use Rattle.text_names.specs.ToldNames.{fits_number, has_number, has_told, nothing_told, told_front}
use Rattle.text_names.specs.ToldNames.{told_line, told_lines, with_if_told, with_told}
use Rattle.reading_laws.proofs.Tools.{same_text}

-- the word stands at a number
pub record StandsAt (told : List Numbered) (w : List ℕ) : Type 0 where
  pub number : ℕ
  pub first : 1 ≤ number
  pub last : number ≤ highest told
  pub there : told_name number told ≡ Some w

-- names are told, each of a number up to 64
pub record AreTold (told : List Numbered) : Type 0 where
  pub most : highest told ≤ 64
  pub named : (n : ℕ) (name : List ℕ) → told_name n told ≡ Some name → is_name name ≡ true
  pub stand : (w : List ℕ) → has_told w told ≡ true → StandsAt told w

none_told : AreTold []
none_told = record {
  most = omega arith;
  named = λ n name h. cc;
  stand = λ w h. cc;
}

found_here : (n : ℕ) (t : Numbered) (told : List Numbered) (b : Bool) → (t.number == n) ≡ b
    → (b || has_number n told) ≡ false
    → (has_number n told ≡ false → find (λ (u : Numbered). u.number == n) told ≡ None)
    → find (λ (u : Numbered). u.number == n) (t ∷ told) ≡ None
found_here n t told true e h rest = cc
found_here n t told false e h rest = rw e (rest h)

found_none : (n : ℕ) (told : List Numbered) → has_number n told ≡ false
    → find (λ (t : Numbered). t.number == n) told ≡ None
found_none n [] h = refl
found_none n (t ∷ told) h =
    found_here n t told (t.number == n) refl h (λ k. found_none n told k)

-- a name that was told is still told, and so is a further one
module _ (told : List Numbered) (n : ℕ) (word : List ℕ) where
  abbrev one : Numbered
  one = record { number = n; name = word }

  abbrev found_at : ℕ → List Numbered → Option Numbered
  found_at m ts = find (λ (t : Numbered). t.number == m) ts

  told_append : (m : ℕ)
      → told_name m (told ++ one ∷ [])
      ≡ option_map (λ (t : Numbered). t.name) (option_or (found_at m told) (found_at m (one ∷ [])))
  told_append m = ap (option_map (λ (t : Numbered). t.name)) (find-append (λ (t : Numbered). t.number == m) told (one ∷ []))

  highest_append : highest (told ++ one ∷ []) ≡ max (highest told) n
  highest_append = fold-append (λ (most : ℕ) (t : Numbered). max most t.number) 0 told (one ∷ [])

  still_told : (m : ℕ) (w : List ℕ) → told_name m told ≡ Some w
      → told_name m (told ++ one ∷ []) ≡ Some w
  still_told m w h = told_append m ∙ go (found_at m told) h
    where
      go : (o : Option Numbered) → option_map (λ (t : Numbered). t.name) o ≡ Some w
          → option_map (λ (t : Numbered). t.name) (option_or o (found_at m (one ∷ []))) ≡ Some w
      go (Some t) h = h
      go None h = cc

  now_told : has_number n told ≡ false → told_name n (told ++ one ∷ []) ≡ Some word
  now_told new =
      told_append n
      ∙ ap (λ (o : Option Numbered). option_map (λ (t : Numbered). t.name) (option_or o (found_at n (one ∷ []))))
      (found_none n told new)
      ∙ rw (eq-eqb n n refl) refl

  still_named : AreTold told → is_name word ≡ true → (m : ℕ) (name : List ℕ)
      → told_name m (told ++ one ∷ []) ≡ Some name → is_name name ≡ true
  still_named are is m name h = go (found_at m told) refl (sym (told_append m) ∙ h)
    where
      last : (b : Bool) → option_map (λ (t : Numbered). t.name) (cond b (Some one) None) ≡ Some name
          → is_name name ≡ true
      last true h = let same : word ≡ name = cc in ap is_name (sym same) ∙ is
      last false h = cc

      go : (o : Option Numbered) → found_at m told ≡ o
          → option_map (λ (t : Numbered). t.name) (option_or o (found_at m (one ∷ []))) ≡ Some name
          → is_name name ≡ true
      go (Some t) e h = are.named m name (ap (option_map (λ (t : Numbered). t.name)) e ∙ h)
      go None e h = last (n == m) h

  still_stands : AreTold told → 1 ≤ n → has_number n told ≡ false → (w : List ℕ)
      → has_told w (told ++ one ∷ []) ≡ true → StandsAt (told ++ one ∷ []) w
  still_stands are first new w h =
      go (has_told w told) refl
      (sym (list_any-append (λ (t : Numbered). bytes_eq t.name w) told (one ∷ [])) ∙ h)
    where
      last : (b : Bool) → bytes_eq word w ≡ b → (b || false) ≡ true
          → StandsAt (told ++ one ∷ []) w
      last true e h = record {
        number = n;
        first = first;
        last = omega (arith, highest_append);
        there = now_told new ∙ ap Some (same_text word w e);
      }
      last false e h = cc

      go : (b : Bool) → has_told w told ≡ b → (b || (bytes_eq word w || false)) ≡ true
          → StandsAt (told ++ one ∷ []) w
      go true e h =
          let at = are.stand w e in
          let up_to = at.last in
          record {
            number = at.number;
            first = at.first;
            last = omega (arith, highest_append, up_to);
            there = still_told at.number w at.there;
          }
      go false e h = last (bytes_eq word w) refl h

  are_told_more : AreTold told → fits_number n ≡ true → has_number n told ≡ false
      → is_name word ≡ true → AreTold (told ++ one ∷ [])
  are_told_more are fits new is =
      let parts = and_parts (nat_le 1 n) (nat_le n 64) fits in
      let first = leb-true 1 n parts.0 in
      let last = leb-true n 64 parts.1 in
      let most = are.most in
      record {
        most = omega (arith, highest_append, last, most);
        named = still_named are is;
        stand = still_stands are first new;
      }

  are_told_with : AreTold told → AreTold (with_told told n word)
  unfolding with_told
  are_told_with are =
      go (fits_number n) refl (has_number n told) refl (is_name word) refl
    where
      go : (a : Bool) → fits_number n ≡ a → (b : Bool) → has_number n told ≡ b → (c : Bool)
          → is_name word ≡ c
          → AreTold (cond (not a || b) told (cond c (told ++ one ∷ []) told))
      go false ea b eb c ec = are
      go true ea true eb c ec = are
      go true ea false eb true ec = are_told_more are ea eb ec
      go true ea false eb false ec = are

-- lines tell names

with_if : (told : List Numbered) (o : Option ℕ) (word : List ℕ) → AreTold told
    → AreTold (with_if_told told o word)
with_if told None word are = are
with_if told (Some n) word are = are_told_with told n word are

nodes_line : (told : Told) (line : List ℕ) → AreTold told.nodes
    → AreTold (told_line told line).nodes
nodes_line told line are = go (first_words line)
  where
    go : (ws : Option Words) → AreTold (told_front told ws).nodes
    go None = are
    go (Some ws) = with_if told.nodes (node_told ws) ws.fourth are

links_line : (told : Told) (line : List ℕ) → AreTold told.links
    → AreTold (told_line told line).links
links_line told line are = go (first_words line)
  where
    go : (ws : Option Words) → AreTold (told_front told ws).links
    go None = are
    go (Some ws) = with_if told.links (link_told ws) ws.fourth are

nodes_lines : (told : Told) (lines : List (List ℕ)) → AreTold told.nodes
    → AreTold (told_lines told lines).nodes
nodes_lines told [] are = are
nodes_lines told (line ∷ lines) are =
    nodes_lines (told_line told line) lines (nodes_line told line are)

links_lines : (told : Told) (lines : List (List ℕ)) → AreTold told.links
    → AreTold (told_lines told lines).links
links_lines told [] are = are
links_lines told (line ∷ lines) are =
    links_lines (told_line told line) lines (links_line told line are)

pub nodes_told : (lines : List (List ℕ)) → AreTold (told_lines nothing_told lines).nodes
nodes_told lines = nodes_lines nothing_told lines none_told

pub links_told : (lines : List (List ℕ)) → AreTold (told_lines nothing_told lines).links
links_told lines = links_lines nothing_told lines none_told
