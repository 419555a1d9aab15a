-- The turns of a journal, told by two layers, are one list.
use Rattle.std.proofs.Common.{◌≡◌, ◌∙◌, ℕ, Bool, true, false, cond, List, [], ◌∷◌, ◌++◌, map, refl}
use Rattle.std.proofs.Common.{sym, ap}
use Rattle.std.proofs.lemmas.List.{map-append}
use Rattle.journal.specs.declared.by.By.{By}
use Rattle.journal.specs.declared.by.By.TheVariants.{Actor, Pump}
use Rattle.journal.specs.declared.effect.Step.{Step}
use Rattle.journal.specs.declared.head.Head.{Head}
use Rattle.order_lines.specs.Fronts.{makers_of}
use Rattle.orders.specs.Turns.{begins_turn as begins, number_of, turns_of}
use Rattle.script_lang.specs.Parts.{ScriptParts}
use Rattle.turn_lines.specs.Reading.{number_among}
use Rattle.turn_lines.specs.Turns.{begins_turn, turn_makers}
use Rattle.runs_again.specs.Laws.{TurnsAreOne}

begins_alike : (by : By) (head : Head) → begins by head ≡ begins_turn by head
begins_alike (Actor k) head = refl
begins_alike (Pump l) head = refl

module _ (script : ScriptParts) where
  abbrev number : By → ℕ
  number = number_among (makers_of script)

  one_number : (by : By) → number_of script by ≡ number by
  one_number (Actor k) = refl
  one_number (Pump l) = refl

  -- the numbers of makers with those of one step more, by whether it begins a turn
  abbrev numbers_with : List ℕ → By → Bool → List ℕ
  numbers_with numbers by first = cond first (numbers ++ number_of script by ∷ []) numbers

  one_more : (first : Bool) (by : By) (makers : List By)
      → numbers_with (map number makers) by first ≡ map number (cond first (makers ++ by ∷ []) makers)
  one_more true by makers =
      ap (λ (n : ℕ). map number makers ++ n ∷ []) (one_number by)
      ∙ sym (map-append number makers (by ∷ []))
  one_more false by makers = refl

  one_list : (P : List Step) → turns_of script P ≡ map number (turn_makers P)
  one_list [] = refl
  one_list (s ∷ P) =
      ap (numbers_with (turns_of script P) s.by) (begins_alike s.by s.head)
      ∙ ap (λ (numbers : List ℕ). numbers_with numbers s.by (begins_turn s.by s.head)) (one_list P)
      ∙ one_more (begins_turn s.by s.head) s.by (turn_makers P)

pub turns_are_one : TurnsAreOne
turns_are_one = one_list
