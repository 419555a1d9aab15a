-- The index of the live incarnations follows each change.
use Rattle.std.proofs.Common.{◌≡◌, ◌≢◌, ℕ, zero, suc, Bool, true, false, cond, eqb, List, [], ◌∷◌}
use Rattle.std.proofs.Common.{take, Option, Some, None, refl, sym, ap, ◌∙◌, inl, inr, arith}
use Rattle.std.proofs.Common.{option_map, ◌⊎◌, IsSome, eqb-true, eq-eqb, get_or-take, length-take}
use Rattle.std.proofs.lemmas.Bool.{cases_lt}
use Rattle.std.proofs.lemmas.Bool.Decides.{eqb_tells}
use Rattle.std.proofs.lemmas.List.{get_or_past}
use Rattle.linx_base.specs.declared.identity.Inc.{Inc}
use Rattle.link_addresses.specs.declared.meaning.Meaning.{Meaning}
use Rattle.link_addresses.specs.declared.meaning.Meaning.TheVariants.{Free, Live, Closing}
use Rattle.link_addresses.specs.Meanings.{meaning_of, means_live, address_of, IsLive}
use Rattle.link_addresses.specs.Meanings.{ChangesMeaning}
use Rattle.link_addresses.specs.Finding.{IsIndexOf, AnswersAt}
use Rattle.link_addresses.proofs.Lists.{closing_isnt_live, live_isnt_free}

pub same_inc : (a b : Inc) → a.0 ≡ b.0 → a ≡ b
same_inc a b e = ap (λ (n : ℕ). record { 0 = n }) e

live_inc : (a b : Inc) → Live a ≡ Live b → a ≡ b
live_inc a b e = cc

same_some : (a b : ℕ) (o : Option ℕ) → o ≡ Some a → o ≡ Some b → a ≡ b
same_some a b o e f = cc

-- ---- the address of an incarnation in the list

means : (inc : Inc) (m : Meaning) → means_live inc m ≡ true → m ≡ Live inc
means inc Free e = absurd cc
means inc (Live other) e = ap Live (sym (same_inc inc other (eqb-true inc.0 other.0 e)))
means inc (Closing other) e = absurd cc

means_back : (inc : Inc) (m : Meaning) → m ≡ Live inc → means_live inc m ≡ true
means_back inc m e = rw e (eq-eqb inc.0 inc.0 refl)

shift : (m : Meaning) (ms : List Meaning) (c : ℕ) (inc : Inc) → meaning_of ms c ≡ Live inc
    → meaning_of (m ∷ ms) (suc c) ≡ Live inc
shift m ms zero inc e = absurd (live_isnt_free inc (sym e))
shift m ms (suc k) inc e = e

step_some : (b : Bool) (rest : Option ℕ) (a : ℕ) → cond b (Some 1) (option_map suc rest) ≡ Some a
    → ((b ≡ true) × (a ≡ 1)) ⊎ ((c : ℕ) × (rest ≡ Some c) × (a ≡ suc c))
step_some true rest a e = inl (refl, cc)
step_some false (Some c) a e = inr (c, refl, cc)
step_some false None a e = absurd cc

step_none : (b : Bool) (rest : Option ℕ) → cond b (Some 1) (option_map suc rest) ≡ None
    → (b ≡ false) × (rest ≡ None)
step_none true rest e = absurd cc
step_none false (Some c) e = absurd cc
step_none false None e = (refl, refl)

pub address_found : (ms : List Meaning) (inc : Inc) (a : ℕ) → address_of ms inc ≡ Some a
    → meaning_of ms a ≡ Live inc
unfolding address_of
address_found [] inc a e = absurd cc
address_found (m ∷ ms) inc a e =
    elim (step_some (means_live inc m) (address_of ms inc) a e) [
      | inl p ↦ rw p.1 (means inc m p.0)
      | inr q ↦ rw q.2 (shift m ms q.0 inc (address_found ms inc q.0 q.1))
    ]

pub address_missing : (ms : List Meaning) (inc : Inc) → address_of ms inc ≡ None → (a : ℕ)
    → meaning_of ms a ≡ Live inc → ⊥
unfolding address_of
address_missing ms inc e zero live = live_isnt_free inc (sym live)
address_missing [] inc e (suc k) live = live_isnt_free inc (sym live)
address_missing (m ∷ ms) inc e (suc zero) live =
    let none = step_none (means_live inc m) (address_of ms inc) e in
    let here = means_back inc m live in
    absurd cc
address_missing (m ∷ ms) inc e (suc (suc k)) live =
    address_missing ms inc (step_none (means_live inc m) (address_of ms inc) e).1 (suc k) live

address_none : (ms : List Meaning) (inc : Inc) → (IsLive ms inc → ⊥) → (o : Option ℕ)
    → address_of ms inc ≡ o → o ≡ None
address_none ms inc not_live (Some a) e = absurd (not_live (a, address_found ms inc a e))
address_none ms inc not_live None e = refl

-- what isn't live has no address
pub not_live_address : (ms : List Meaning) (inc : Inc) → (IsLive ms inc → ⊥)
    → None ≡ address_of ms inc
not_live_address ms inc not_live = sym (address_none ms inc not_live (address_of ms inc) refl)

-- what has no address isn't live
pub address_not_live : (ms : List Meaning) (inc : Inc) → address_of ms inc ≡ None → IsLive ms inc
    → ⊥
address_not_live ms inc none live = address_missing ms inc none live.0 live.1

module _ (f : ℕ → Option ℕ) (ms : List Meaning) (index : IsIndexOf f ms) (inc : Inc) where
  address_some : (a : ℕ) → meaning_of ms a ≡ Live inc → (o : Option ℕ) → address_of ms inc ≡ o
      → o ≡ Some a
  address_some a live (Some b) e = ap Some (same_some b a (f inc.0)
      (index inc b (address_found ms inc b e)) (index inc a live))
  address_some a live None e = absurd (address_missing ms inc e a live)

  -- the address of what is live
  pub live_address : (a : ℕ) → meaning_of ms a ≡ Live inc → address_of ms inc ≡ Some a
  live_address a live = address_some a live (address_of ms inc) refl

  -- without an entry it isn't live
  pub no_entry : f inc.0 ≡ None → IsLive ms inc → ⊥
  no_entry none live = let there = index inc live.0 live.1 in absurd cc

  -- where its entry doesn't mean it, it isn't live
  pub stale_entry : (a : ℕ) → f inc.0 ≡ Some a → meaning_of ms a ≢ Live inc → IsLive ms inc → ⊥
  stale_entry a entry other live =
      other (ap (meaning_of ms) (same_some a live.0 (f inc.0) entry (index inc live.0 live.1))
      ∙ live.1)

-- ---- changes of the index

answer_here : (f g : ℕ → Option ℕ) (inc : ℕ) (w : Option ℕ) → AnswersAt f g inc w → (n : ℕ)
    → eqb inc n ≡ true → g n ≡ w
answer_here f g inc w h n e = h n ∙ ap (λ (b : Bool). cond b w (f n)) e

answer_other : (f g : ℕ → Option ℕ) (inc : ℕ) (w : Option ℕ) → AnswersAt f g inc w → (n : ℕ)
    → eqb inc n ≡ false → g n ≡ f n
answer_other f g inc w h n e = h n ∙ ap (λ (b : Bool). cond b w (f n)) e

-- another index with the same answers
pub index_same : (f g : ℕ → Option ℕ) (ms : List Meaning) → IsIndexOf f ms → ((n : ℕ) → g n ≡ f n)
    → IsIndexOf g ms
index_same f g ms index same = λ inc addr live. same inc.0 ∙ index inc addr live

-- an entry of what isn't live goes away
pub index_left : (f g : ℕ → Option ℕ) (ms : List Meaning) (inc : Inc) → IsIndexOf f ms
    → (IsLive ms inc → ⊥) → AnswersAt f g inc.0 None → IsIndexOf g ms
index_left f g ms inc index not_live answers = λ i addr live.
    elim (eqb_tells inc.0 i.0) [
      | inl p ↦ absurd (not_live (addr, live ∙ ap Live (sym (same_inc inc i p.1))))
      | inr p ↦ answer_other f g inc.0 None answers i.0 p.0 ∙ index i addr live
    ]

module _ (f g : ℕ → Option ℕ) (inc : Inc) (a : ℕ) (answers : AnswersAt f g inc.0 (Some a)) where
  -- the index knows what it is given
  pub entered : g inc.0 ≡ Some a
  entered = answer_here f g inc.0 (Some a) answers inc.0 (eq-eqb inc.0 inc.0 refl)

  -- and forgets none
  pub entries_stay : (number : ℕ) → IsSome (f number) → IsSome (g number)
  entries_stay number some =
      elim (eqb_tells inc.0 number) [
        | inl p ↦ rw (answer_here f g inc.0 (Some a) answers number p.0) refl
        | inr p ↦ rw (answer_other f g inc.0 (Some a) answers number p.0) some
      ]

  -- the index after an incarnation got an address
  pub index_entered : (old new : List Meaning) → IsIndexOf f old → (IsLive old inc → ⊥)
      → ChangesMeaning old new a (Live inc) → IsIndexOf g new
  index_entered old new index not_live change = λ i b live.
      elim (eqb_tells b a) [
        | inl p ↦
            let same : inc ≡ i = live_inc inc i (sym change.here ∙ ap (meaning_of new) (sym p.1)
            ∙ live) in
            answer_here f g inc.0 (Some a) answers i.0
            (eq-eqb inc.0 i.0 (ap (λ (x : Inc). x.0) same)) ∙ ap Some (sym p.1)
        | inr p ↦
            let was : meaning_of old b ≡ Live i = sym (change.others b p.1) ∙ live in
            elim (eqb_tells inc.0 i.0) [
              | inl q ↦ absurd (not_live (b, was ∙ ap Live (sym (same_inc inc i q.1))))
              | inr q ↦ answer_other f g inc.0 (Some a) answers i.0 q.0 ∙ index i b was
            ]
      ]

-- ---- changes of the meanings

-- the index where nobody is given an address
pub index_fewer : (f : ℕ → Option ℕ) (old new : List Meaning) (a : ℕ) (m : Meaning)
    → IsIndexOf f old → ChangesMeaning old new a m → ((i : Inc) → m ≢ Live i) → IsIndexOf f new
index_fewer f old new a m index change other = λ i b live.
    elim (eqb_tells b a) [
      | inl p ↦ absurd (other i (sym change.here ∙ ap (meaning_of new) (sym p.1) ∙ live))
      | inr p ↦ index i b (sym (change.others b p.1) ∙ live)
    ]

-- a closed incarnation isn't live
pub closed_not_live : (f : ℕ → Option ℕ) (old new : List Meaning) (inc : Inc) (a : ℕ)
    → IsIndexOf f old → meaning_of old a ≡ Live inc → ChangesMeaning old new a (Closing inc)
    → IsLive new inc → ⊥
closed_not_live f old new inc a index live change after =
    elim (eqb_tells after.0 a) [
      | inl p ↦
          closing_isnt_live inc inc (sym change.here ∙ ap (meaning_of new) (sym p.1) ∙ after.1)
      | inr p ↦ p.1 (same_some after.0 a (f inc.0)
          (index inc after.0 (sym (change.others after.0 p.1) ∙ after.1)) (index inc a live))
    ]

-- what is live in a front of the list is live
live_in_front : (ms : List Meaning) (k addr : ℕ) (inc : Inc)
    → meaning_of (take k ms) addr ≡ Live inc → meaning_of ms addr ≡ Live inc
live_in_front ms k zero inc live = live
live_in_front ms k (suc b) inc live =
    elim (cases_lt b k) [
      | inl lt ↦ sym (get_or-take k ms b Free lt) ∙ live
      | inr ge ↦ absurd (live_isnt_free inc (sym live
          ∙ get_or_past (take k ms) b Free (omega (arith, length-take k ms))))
    ]

pub index_front : (f : ℕ → Option ℕ) (ms : List Meaning) (k : ℕ) → IsIndexOf f ms
    → IsIndexOf f (take k ms)
index_front f ms k index = λ i b live. index i b (live_in_front ms k b i live)
