-- The names of a text, each at its number.
use Rattle.std.specs.Prelude.{ℕ, zero, suc, Bool, ◌==◌, ◌++◌, max, List, [], ◌∷◌, fold, Option}
use Rattle.std.specs.Prelude.{Some, None, codes, option_map, is_some, if◌then◌else◌}
use Rattle.std.specs.List.{find}
use Rattle.linx_base.specs.declared.name.Names.{Names}
use Rattle.text_words.specs.Words.{after, parts_at}
use Rattle.text_names.specs.declared.told_names.Numbered.{Numbered}
use Rattle.text_names.specs.declared.told_names.Told.{Told}
use Rattle.text_names.specs.ToldNames.{nothing_told, told_lines}
use Rattle.text_names.specs.OtherNames.{no_names, other_lines}

-- the name of this number, if a line tells it
abbrev pub told_name : ℕ → List Numbered → Option (List ℕ)
told_name number told = option_map (λ t. t.name) (find (λ t. t.number == number) told)

-- the highest number that is told, or 0
abbrev pub highest : List Numbered → ℕ
highest told = fold (λ most t. max most t.number) 0 told

-- what stands in the place of a name that no line has
abbrev pub nobody : List ℕ
nobody = codes "-"

-- the name of a number: the one that is told, or the next of the others
abbrev pub name_at : Option (List ℕ) → List (List ℕ) → List ℕ
name_at (Some name) others = name
name_at None [] = nobody
name_at None (name ∷ others) = name

-- the other names once one was taken for a number: all of them where the number is told
abbrev pub behind_name : Option (List ℕ) → List (List ℕ) → List (List ℕ)
behind_name (Some name) others = others
behind_name None [] = []
behind_name None (name ∷ others) = others

-- further names, and the others that are left: with the name of the next number
abbrev pub with_next : Option (List ℕ) → List (List ℕ) × List (List ℕ)
    → List (List ℕ) × List (List ℕ)
with_next told before =
    (before.0 ++ name_at told before.1 ∷ [], behind_name told before.1)

-- the names of the numbers from 1 to this one, and the others that are left
abbrev pub names_up_to : ℕ → List Numbered → List (List ℕ) → List (List ℕ) × List (List ℕ)
names_up_to zero told others = ([], others)
names_up_to (suc n) told others =
    with_next (told_name (suc n) told) (names_up_to n told others)

-- the names whose numbers are told, each at its number, and the others in the places between and
-- behind them
abbrev pub numbered_names : List Numbered → List (List ℕ) → List (List ℕ)
numbered_names told others =
    (names_up_to (highest told) told others).0 ++ (names_up_to (highest told) told others).1

-- the line announces the steps of a text
abbrev pub is_heading : List ℕ → Bool
is_heading line = is_some (after (codes "journal ") line)

-- the lines behind the first one that announces steps
abbrev pub step_lines : List (List ℕ) → List (List ℕ)
step_lines [] = []
step_lines (line ∷ lines) = if is_heading line then lines else step_lines lines

-- the names in lines of steps: with what was told of numbers
abbrev pub names_with : Told → List (List ℕ) → Names
names_with told lines = record {
  nodes = numbered_names told.nodes (other_lines told no_names lines).nodes;
  links = numbered_names told.links (other_lines told no_names lines).links;
}

-- the names of nodes and links that a text spells: what all its lines tell of numbers, and the others
-- of its steps
unfoldable pub names_in : List ℕ → Names
names_in text =
    names_with (told_lines nothing_told (parts_at 10 text)) (step_lines (parts_at 10 text))
