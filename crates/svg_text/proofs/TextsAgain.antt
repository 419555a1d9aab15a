-- TEXTS READ AGAIN: a text is read back as it was, and has no angle in it.
use Rattle.std.proofs.Common.{◌≡◌, ℕ, Bool, true, false, cond, not, List, [], ◌∷◌, ◌++◌, refl, sym}
use Rattle.std.proofs.Common.{ap, ◌∙◌, flat_map, Option, Some, None, ◌&&◌, ◌==◌, codes, eqb-true}
use Rattle.std.proofs.Common.{true≢false}
use Rattle.std.specs.List.{list_all}
use Rattle.std.proofs.lemmas.Bool.{and_parts, false≢true}
use Rattle.svg_text.specs.Reading.{of_both, put_first, text_in}
use Rattle.svg_text.specs.Xml.{is_character, is_plain, character_text}
use Rattle.svg_text.proofs.Bytes.{lacks, all_flat_map}

-- all of five tests
pub five : (a q m l g : Bool) → a ≡ true → q ≡ false → m ≡ false → l ≡ false → g ≡ false
    → (a && not q && not m && not l && not g) ≡ true
five true false false false false is n34 n38 n60 n62 = refl
five false q m l g is n34 n38 n60 n62 = absurd (false≢true is)
five true true m l g is n34 n38 n60 n62 = absurd (true≢false n34)
five true false true l g is n34 n38 n60 n62 = absurd (true≢false n38)
five true false false true g is n34 n38 n60 n62 = absurd (true≢false n60)
five true false false false true is n34 n38 n60 n62 = absurd (true≢false n62)

-- a character that is read, put before what is read behind it
named : (b c : ℕ) (rest bs : List ℕ) → b ≡ c → text_in rest None ≡ Some bs
    → of_both put_first (Some c) (text_in rest None) ≡ Some (b ∷ bs)
named b c rest bs same again =
    ap (λ (text : Option (List ℕ)). of_both put_first (Some c) text) again
    ∙ ap (λ (n : ℕ). Some (n ∷ bs)) (sym same)

itself : (b : ℕ) (rest bs : List ℕ) → (b == 38) ≡ false → is_plain b ≡ true
    → text_in rest None ≡ Some bs → text_in (b ∷ rest) None ≡ Some (b ∷ bs)
itself b rest bs other plain again = go (b == 38) (is_plain b) other plain
  where
    go : (a p : Bool) → a ≡ false → p ≡ true
        → cond a (text_in rest (Some []))
        (cond p (of_both put_first (Some b) (text_in rest None)) None) ≡ Some (b ∷ bs)
    go false true _ _ = named b b rest bs refl again
    go true p e _ = absurd (true≢false e)
    go false false _ e = absurd (false≢true e)

character_again : (b : ℕ) (rest bs : List ℕ) → is_character b ≡ true
    → text_in rest None ≡ Some bs → text_in (character_text b ++ rest) None ≡ Some (b ∷ bs)
character_again b rest bs is again =
    go (b == 38) (b == 60) (b == 62) (b == 34) refl refl refl refl
  where
    go : (a l g q : Bool) → (b == 38) ≡ a → (b == 60) ≡ l → (b == 62) ≡ g → (b == 34) ≡ q
        → text_in (cond a (codes "&amp;") (cond l (codes "&lt;")
        (cond g (codes "&gt;") (cond q (codes "&quot;") (b ∷ [])))) ++ rest) None ≡ Some (b ∷ bs)
    go true l g q n38 n60 n62 n34 = named b 38 rest bs (eqb-true b 38 n38) again
    go false true g q n38 n60 n62 n34 = named b 60 rest bs (eqb-true b 60 n60) again
    go false false true q n38 n60 n62 n34 = named b 62 rest bs (eqb-true b 62 n62) again
    go false false false true n38 n60 n62 n34 = named b 34 rest bs (eqb-true b 34 n34) again
    go false false false false n38 n60 n62 n34 =
        itself b rest bs n38
        (five (is_character b) (b == 34) (b == 38) (b == 60) (b == 62) is n34 n38 n60 n62) again

pub text_again : (text : List ℕ) → list_all is_character text ≡ true
    → text_in (flat_map character_text text) None ≡ Some text
text_again [] all = refl
text_again (b ∷ bs) all =
    let parts = and_parts (is_character b) (list_all is_character bs) all in
    character_again b (flat_map character_text bs) bs parts.0 (text_again bs parts.1)

-- no angle that opens a tag
opens_none : (b : ℕ) → lacks 60 (character_text b) ≡ true
opens_none b = go (b == 38) (b == 60) (b == 62) (b == 34) refl
  where
    go : (a l g q : Bool) → (b == 60) ≡ l
        → lacks 60 (cond a (codes "&amp;") (cond l (codes "&lt;")
        (cond g (codes "&gt;") (cond q (codes "&quot;") (b ∷ []))))) ≡ true
    go true l g q is = refl
    go false true g q is = refl
    go false false true q is = refl
    go false false false true is = refl
    go false false false false is = rw is refl

-- and none that ends one
ends_none : (b : ℕ) → lacks 62 (character_text b) ≡ true
ends_none b = go (b == 38) (b == 60) (b == 62) (b == 34) refl
  where
    go : (a l g q : Bool) → (b == 62) ≡ g
        → lacks 62 (cond a (codes "&amp;") (cond l (codes "&lt;")
        (cond g (codes "&gt;") (cond q (codes "&quot;") (b ∷ []))))) ≡ true
    go true l g q is = refl
    go false true g q is = refl
    go false false true q is = refl
    go false false false true is = refl
    go false false false false is = rw is refl

pub text_opens_none : (text : List ℕ) → lacks 60 (flat_map character_text text) ≡ true
text_opens_none text = all_flat_map (λ b. not (b == 60)) character_text opens_none text

pub text_ends_none : (text : List ℕ) → lacks 62 (flat_map character_text text) ≡ true
text_ends_none text = all_flat_map (λ b. not (b == 62)) character_text ends_none text
