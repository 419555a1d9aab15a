-- What is read of a run's text tells the turns of the run.
use Rattle.std.proofs.Common.{◌≡◌, ◌∙◌, ◌&&◌, ◌<◌, ◌≤◌, ℕ, Bool, true, not, cond, List, [], ◌∷◌, ◌++◌}
use Rattle.std.proofs.Common.{arith, false, length, map, refl, ap}
use Rattle.std.proofs.lemmas.Bool.Decides.{nat_tests}
use Rattle.std.proofs.lemmas.List.{length-map}
use Rattle.journal.specs.Laws.{IsMaker}
use Rattle.journal.specs.declared.by.By.{By}
use Rattle.journal.specs.declared.by.By.TheVariants.{Actor, Pump}
use Rattle.journal.specs.declared.effect.Step.{Step}
use Rattle.journal.specs.declared.head.Head.{Head}
use Rattle.journal.specs.declared.head.Head.TheVariants.{Send}
use Rattle.journal_read.specs.Printed.{read_step}
use Rattle.link_laws.specs.Laws.{IsLegal}
use Rattle.node_kernel.specs.Answers.{is_pumped}
use Rattle.orders.specs.Turns.{begins_turn, number_of, turns_of}
use Rattle.reading_laws.specs.Images.{image_of_head}
use Rattle.script_lang.specs.Parts.{ScriptParts}
use Rattle.stage.specs.Turns.{shape_of}
use Rattle.text_replay.specs.Front.{is_maker, told_front}

-- a packet is read as one, and a tick
same_kind : (head : Head) → is_pumped (image_of_head head) ≡ is_pumped head
same_kind (Send peer note answer) = refl
same_kind _ = refl

begins_alike : (by : By) (head : Head) → begins_turn by (image_of_head head) ≡ begins_turn by head
begins_alike (Actor k) head = ap not (same_kind head)
begins_alike (Pump l) head = refl

module _ (script : ScriptParts) where
  -- the turns with one of a step more, by whether it begins one
  abbrev front_with : By → List ℕ → Bool → List ℕ
  front_with by front begins = cond (begins && is_maker script by) (front ++ number_of script by ∷ []) front

  -- what is read tells the same turns
  pub read_front : (P : List Step) → told_front script (map read_step P) ≡ told_front script P
  read_front [] = refl
  read_front (s ∷ P) =
      ap (front_with s.by (told_front script (map read_step P))) (begins_alike s.by s.head)
      ∙ ap (λ (front : List ℕ). front_with s.by front (begins_turn s.by s.head)) (read_front P)

  known : (P : List Step) (by : By) → IsMaker (shape_of script) P by → is_maker script by ≡ true
  known P (Actor k) maker =
      let low : 0 < k = omega (arith, maker.0) in
      let high : k ≤ length script.actors =
      omega (arith, maker.1, length-map script.actors (λ actor. actor.node)) in
      grind (arith, nat_tests, low, high)
  known P (Pump l) maker =
      let low : 0 < l.0 = omega (arith, maker.0) in
      let high : l.0 ≤ length script.links = maker.1 in
      grind (arith, nat_tests, low, high)

  begins_by : (begins is : Bool) (by : By) (front turns : List ℕ) → is ≡ true → front ≡ turns
      → cond (begins && is) (front ++ number_of script by ∷ []) front
      ≡ cond begins (turns ++ number_of script by ∷ []) turns
  begins_by true is by front turns yes_is one = cc
  begins_by false is by front turns yes_is one = one

  -- of a legal journal, whose makers the script has, they are all turns
  pub legal_front : (P : List Step) → IsLegal (shape_of script) P → told_front script P ≡ turns_of script P
  legal_front [] legal = refl
  legal_front (s ∷ P) legal =
      begins_by (begins_turn s.by s.head) (is_maker script s.by) s.by (told_front script P)
      (turns_of script P) (known P s.by legal.1.nodes.makers.maker) (legal_front P legal.0)
