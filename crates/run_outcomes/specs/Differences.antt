-- WHERE TWO OUTCOMES DIFFER, actor by actor.
use Rattle.std.specs.Prelude.{ℕ, zero, suc, ◌+◌, ◌-◌, Bool, true, false, List, [], ◌∷◌, ◌++◌, codes, decimal}
use Rattle.std.specs.Prelude.{drop, flat_map, length, nat_eq, take, Option, Some, None, if◌then◌else◌}
use Rattle.std.specs.List.{starts_with}
use Rattle.std.specs.Str.{bytes_eq}
use Rattle.script_words.specs.Lines.{lines_of}
use Rattle.run_outcomes.specs.Outcomes.{name_of}

-- a line is one of an actor's
abbrev pub is_of : List ℕ → List ℕ → Bool
is_of name line = starts_with nat_eq line name

-- a line, if it is one of an actor's
abbrev pub line_told : List ℕ → List ℕ → List (List ℕ)
line_told name line = if is_of name line then line ∷ [] else []

-- the lines of an actor in an outcome
abbrev pub lines_told : List ℕ → List ℕ → List (List ℕ)
lines_told name outcome = flat_map (line_told name) (lines_of outcome)

-- two lines are the same, or neither is there
abbrev pub are_same : Option (List ℕ) → Option (List ℕ) → Bool
are_same (Some x) (Some y) = bytes_eq x y
are_same (Some x) None = false
are_same None (Some y) = false
are_same None None = true

-- the first place from this one on at which two lists of lines differ, and their lines there
pub record Apart : Type 0 where
  pub place : ℕ
  pub one : Option (List ℕ)
  pub other : Option (List ℕ)

-- where two lists of lines differ first, from this place on; nowhere where they are one
abbrev pub apart_at : ℕ → List (List ℕ) → List (List ℕ) → Option Apart
apart_at n [] [] = None
apart_at n [] (y ∷ ys) = Some (record { place = n; one = None; other = Some y })
apart_at n (x ∷ xs) [] = Some (record { place = n; one = Some x; other = None })
apart_at n (x ∷ xs) (y ∷ ys) =
    if bytes_eq x y
    then apart_at (n + 1) xs ys
    else Some (record { place = n; one = Some x; other = Some y })

-- what a line tells: what stands behind the name of its actor, without its line feed
abbrev pub told_in : List ℕ → List ℕ → List ℕ
told_in name line = drop (length name) (take (length line - 1) line)

-- what a line tells, as a difference shows it; `-` where there is no line
abbrev pub shown : List ℕ → Option (List ℕ) → List ℕ
shown name None = codes "-"
shown name (Some line) = told_in name line

-- the line of a difference: the actor, the place, and what each outcome has there
unfoldable pub apart_line : List ℕ → Apart → List ℕ
apart_line name apart =
    codes "- " ++ name ++ decimal apart.place ++ codes " " ++ shown name apart.one ++ codes " / "
    ++ shown name apart.other ++ codes "\n"

-- the line of a difference, if there is one
abbrev pub apart_text : List ℕ → Option Apart → List ℕ
apart_text name None = []
apart_text name (Some apart) = apart_line name apart

-- the first difference of an actor's lines
abbrev pub difference : ℕ → List ℕ → List ℕ → Option Apart
difference k one other = apart_at 1 (lines_told (name_of k) one) (lines_told (name_of k) other)

-- THE DIFFERENCES of two outcomes: the first one of each of the first so many actors
abbrev pub differences_text : ℕ → List ℕ → List ℕ → List ℕ
differences_text zero one other = []
differences_text (suc n) one other =
    differences_text n one other ++ apart_text (name_of (suc n)) (difference (suc n) one other)
