-- Where two texts have no other line, they are one.
use Rattle.std.proofs.Common.{◌≡◌, ◌∙◌, ℕ, suc, Bool, true, false, cond, List, [], ◌∷◌, ◌++◌, flat_map}
use Rattle.std.proofs.Common.{refl, sym, ap, arith, length, ◌==◌, ◌<◌, Option, Some, None}
use Rattle.std.specs.List.{onto_first}
use Rattle.std.specs.Str.{bytes_eq}
use Rattle.std.proofs.lemmas.Bool.{cond-true}
use Rattle.std.proofs.lemmas.Slice.Eq.{bytes_eq-Decides}
use Rattle.script_words.specs.Lines.{lines_of}
use Rattle.text_replay.specs.Lines.{number_behind, or_else, other_from, other_line, steps_behind}

-- ---- where one text ends, and the other doesn't

some_lines : (n b : ℕ) (feed : Bool) (lines : List (List ℕ))
    → (other_from n [] (cond feed ((b ∷ []) ∷ lines) (onto_first b lines)) ≡ Some n)
    × (other_from n (cond feed ((b ∷ []) ∷ lines) (onto_first b lines)) [] ≡ Some n)
some_lines n b true lines = (refl, refl)
some_lines n b false [] = (refl, refl)
some_lines n b false (line ∷ lines) = (refl, refl)

-- the first does
pub ends_first : (n : ℕ) (text run : List ℕ) → length text ≡ 0 → 0 < length run
    → other_from n (lines_of text) (lines_of run) ≡ Some n
ends_first n [] [] none some = absurd (omega (arith, some))
ends_first n [] (b ∷ bs) none some = (some_lines n b (b == 10) (lines_of bs)).0
ends_first n (b ∷ bs) run none some = absurd (omega (arith, none))

-- the second does
pub ends_second : (n : ℕ) (text run : List ℕ) → 0 < length text → length run ≡ 0
    → other_from n (lines_of text) (lines_of run) ≡ Some n
ends_second n [] [] some none = absurd (omega (arith, some))
ends_second n (b ∷ bs) [] some none = (some_lines n b (b == 10) (lines_of bs)).1
ends_second n text (b ∷ bs) some none = absurd (omega (arith, none))

-- ---- lines beside themselves

none_other : (n : ℕ) (lines : List (List ℕ)) → other_from n lines lines ≡ None
none_other n [] = refl
none_other n (line ∷ lines) =
    cond-true (bytes_eq line line) (other_from (suc n) lines lines) (Some n)
    ((bytes_eq-Decides line line).1 refl)
    ∙ none_other (suc n) lines

both_none : (first second : Option ℕ) → first ≡ None → second ≡ None → or_else first second ≡ None
both_none first second one two = ap (λ (o : Option ℕ). or_else o second) one ∙ two

-- a text has no other line than itself
pub alike : (text : List ℕ) → other_line text text ≡ None
alike text =
    both_none (other_from (number_behind 1 (lines_of text)) (steps_behind (lines_of text)) (steps_behind (lines_of text)))
    (other_from 1 (lines_of text) (lines_of text))
    (none_other (number_behind 1 (lines_of text)) (steps_behind (lines_of text)))
    (none_other 1 (lines_of text))

-- ---- and where there is none, all lines are the same

abbrev joined : List (List ℕ) → List ℕ
joined lines = flat_map (λ (line : List ℕ). line) lines

same_by : (same : Bool) (n : ℕ) (line other : List ℕ) (lines others : List (List ℕ))
    → (same ≡ true → line ≡ other) → (other_from (suc n) lines others ≡ None → lines ≡ others)
    → cond same (other_from (suc n) lines others) (Some n) ≡ None → line ∷ lines ≡ other ∷ others
same_by true n line other lines others one rest is = let same = one refl in let more = rest is in cc
same_by false n line other lines others one rest is = absurd cc

same_lines : (n : ℕ) (lines others : List (List ℕ)) → other_from n lines others ≡ None
    → lines ≡ others
same_lines n [] [] is = refl
same_lines n (line ∷ lines) (other ∷ others) is =
    same_by (bytes_eq line other) n line other lines others (bytes_eq-Decides line other).0
    (same_lines (suc n) lines others) is
same_lines n [] (other ∷ others) is = absurd cc
same_lines n (line ∷ lines) [] is = absurd cc

onto_whole : (b : ℕ) (lines : List (List ℕ)) → joined (onto_first b lines) ≡ b ∷ joined lines
onto_whole b [] = refl
onto_whole b (line ∷ lines) = refl

whole_by : (feed : Bool) (b : ℕ) (bs : List ℕ) → joined (lines_of bs) ≡ bs
    → joined (cond feed ((b ∷ []) ∷ lines_of bs) (onto_first b (lines_of bs))) ≡ b ∷ bs
whole_by true b bs rest = ap (λ (text : List ℕ). b ∷ text) rest
whole_by false b bs rest =
    onto_whole b (lines_of bs) ∙ ap (λ (text : List ℕ). b ∷ text) rest

-- a text is its lines
whole : (text : List ℕ) → joined (lines_of text) ≡ text
whole [] = refl
whole (b ∷ bs) = whole_by (b == 10) b bs (whole bs)

second_none : (first second : Option ℕ) → or_else first second ≡ None → second ≡ None
second_none None second is = is
second_none (Some n) second is = absurd cc

-- two texts without another line are one
pub one_text : (text run : List ℕ) → other_line text run ≡ None → text ≡ run
one_text text run is =
    sym (whole text)
    ∙ ap joined
    (same_lines 1 (lines_of text) (lines_of run)
    (second_none
    (other_from (number_behind 1 (lines_of text)) (steps_behind (lines_of text)) (steps_behind (lines_of run)))
    (other_from 1 (lines_of text) (lines_of run))
    is))
    ∙ whole run
