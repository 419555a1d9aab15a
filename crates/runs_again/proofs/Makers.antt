-- The makers of the turns of a run are few, and are those of its script.
use Rattle.std.proofs.Common.{◌≡◌, ◌<◌, ◌≤◌, Bool, true, false, cond, List, []}
use Rattle.std.proofs.Common.{◌∷◌, ◌++◌, length, refl, arith, nat_le}
use Rattle.std.specs.List.{AllByRecursion}
use Rattle.std.proofs.lemmas.Bool.{leb-false, or_parts}
use Rattle.std.proofs.lemmas.List.{length-map}
use Rattle.journal.specs.Laws.{IsMaker}
use Rattle.journal.specs.Logs.{is_full, signal_bytes_of}
use Rattle.journal.specs.declared.by.By.{By}
use Rattle.journal.specs.declared.by.By.TheVariants.{Actor, Pump}
use Rattle.journal.specs.declared.effect.Step.{Step}
use Rattle.journal.proofs.Lists.{all-append}
use Rattle.link_laws.specs.Laws.{IsLegal}
use Rattle.order_lines.specs.Fronts.{makers_of}
use Rattle.script_lang.specs.Fits.{IsScript}
use Rattle.script_lang.specs.Parts.{ScriptParts}
use Rattle.stage.specs.Plays.{IsScriptRun}
use Rattle.stage.specs.Turns.{shape_of}
use Rattle.trunk_moves.specs.Trunks.{RunTrunks}
use Rattle.turn_lines.specs.Reading.{AreFew, IsAmong}
use Rattle.turn_lines.specs.Rows.{rows_of}
use Rattle.turn_lines.specs.Turns.{begins_turn, turn_makers}
use Rattle.turn_lines.proofs.MoreTurns.{few_turns, turns_of_rows}

module _ (script : ScriptParts) where
  pub are_few : IsScript script → AreFew (makers_of script)
  are_few declared = record {
    actors = omega (arith, declared.actors);
    links = omega (arith, declared.links, declared.each_name);
  }

  is_among : (P : List Step) (by : By) → IsMaker (shape_of script) P by
      → IsAmong (makers_of script) by
  is_among P (Actor k) maker = (
    omega (arith, maker.0),
    omega (arith, maker.1, length-map script.actors (λ actor. actor.node)),
  )
  is_among P (Pump l) maker = (omega (arith, maker.0), maker.1)

  among_by : (begins : Bool) (by : By) (makers : List By)
      → AllByRecursion (IsAmong (makers_of script)) makers → IsAmong (makers_of script) by
      → AllByRecursion (IsAmong (makers_of script)) (cond begins (makers ++ by ∷ []) makers)
  among_by true by makers all one =
      all-append (IsAmong (makers_of script)) makers (by ∷ []) all (one, tt)
  among_by false by makers all one = all

  -- each is an actor or a link of the script
  pub are_among : (P : List Step) → IsLegal (shape_of script) P
      → AllByRecursion (IsAmong (makers_of script)) (turn_makers P)
  are_among [] legal = tt
  are_among (s ∷ P) legal =
      among_by (begins_turn s.by s.head) s.by (turn_makers P) (are_among P legal.0)
      (is_among P s.by legal.1.nodes.makers.maker)

  -- a journal that isn't full has room for one step more
  has_room : (P : List Step) → is_full P ≡ false → length P < 200000
  has_room P room =
      leb-false 200000 (length P)
      (or_parts (nat_le 200000 (length P)) (nat_le 67108864 (signal_bytes_of P)) room).0

  few_steps : (P : List Step) (trunks : RunTrunks) → IsScriptRun script P trunks
      → length P ≤ 200000
  few_steps [] trunks run = omega arith
  few_steps (s ∷ P) trunks run =
      let less : length P < 200000 = has_room P run.1.1.made.room in omega (arith, less)

  -- there are no more turns than a front has
  pub turns_are_few : (P : List Step) (trunks : RunTrunks) → IsScriptRun script P trunks
      → length (turn_makers P) ≤ 200000
  turns_are_few P trunks run =
      omega (
        arith,
        few_steps P trunks run,
        few_turns P (rows_of (turn_makers P)) refl,
        turns_of_rows (turn_makers P),
      )
