-- A run in an order is also the one whose turns are listed, as its journal tells them.
use Rattle.std.proofs.Common.{◌≡◌, ℕ, zero, suc, ◌<◌, List, [], ◌∷◌, ◌++◌, length, append_assoc}
use Rattle.std.proofs.Common.{refl, sym, ◌∙◌, ap, subst, append-nil}
use Rattle.script_lang.specs.Fits.{IsScript}
use Rattle.script_lang.specs.Parts.{ScriptParts}
use Rattle.fabric.specs.Run.{Layout}
use Rattle.stage.specs.Plays.{AllFollow, IsSoFar}
use Rattle.stage.specs.Turns.{shape_of}
use Rattle.stage.proofs.Actors.Asks.{next-handed}
use Rattle.stage.proofs.Rounds.WhoIsReady.{ready-moves}
use Rattle.run_orders.proofs.States.{AreAlike}
use Rattle.order_rules.specs.Orders.{Order, named}
use Rattle.order_rules.specs.declared.rule.Rule.{Rule}
use Rattle.orders.specs.Makers.{IsReadyMaker, ready}
use Rattle.orders.specs.Runs.{AreNextTurns, IsInOrder, IsNextTurn, Standing, first_standing}
use Rattle.orders.specs.Runs.{next_in, standing}
use Rattle.orders.specs.Turns.{turns_of}
use Rattle.orders.proofs.Both.{many-both, start, start-both}
use Rattle.orders.proofs.Following.{before-turn}
use Rattle.orders.proofs.Ready.{ready-there}
use Rattle.orders.proofs.Told.{turn-told}
use Rattle.orders.proofs.Turns.{turn-next}

module _ (script : ScriptParts) where
  -- the makers of so many turns, and then these
  abbrev listed_on : (n : ℕ) (start now : Standing) → AreNextTurns script n start now → List ℕ
      → List ℕ
  listed_on zero start now made after = after
  listed_on (suc n) start now made after =
      listed_on n start made.0 made.1.0 ((next_in script made.0).maker ∷ after)

  -- the first of a list that is ready is named
  pub first-named : (m : ℕ) (after : List ℕ) (rule : Rule) (f : Layout) → IsReadyMaker script f m
      → record { maker = m; order = record { left = after; rule = rule } }
      ≡ named (m ∷ after) rule (ready script f)
  first-named m after rule f it = rw (ready-there script f m it) refl

  again-turn : (rule : Rule) (after : List ℕ) (old new : Standing) → IsNextTurn script old new
      → IsNextTurn script (standing ((next_in script old).maker ∷ after) rule old.run)
      (standing after rule new.run)
  again-turn rule after old new turn =
      turn-next script (standing ((next_in script old).maker ∷ after) rule old.run)
      (record { left = after; rule = rule }) (next_in script old).maker new.run
      (first-named (next_in script old).maker after rule old.run turn.ready) turn.running turn.ready
      turn.turn

  -- THE SAME TURNS, as listed
  again : (rule : Rule) (n : ℕ) (start now : Standing) (made : AreNextTurns script n start now)
      (after : List ℕ)
      → AreNextTurns script n (standing (listed_on n start now made after) rule start.run)
      (standing after rule now.run)
  again rule zero start now made after = ap (λ (s : Standing). standing after rule s.run) made
  again rule (suc n) start now made after = (
    standing ((next_in script made.0).maker ∷ after) rule made.0.run,
    (
      again rule n start made.0 made.1.0 ((next_in script made.0).maker ∷ after),
      again-turn rule after made.0 now made.1.1,
    ),
  )

-- ---- and they are those that the journal tells

module _ (script : ScriptParts) (is : IsScript script) (order : Order) where
  -- a turn of one that is ready adds a step
  turn-longer : (n : ℕ) (old new : Standing) → AreNextTurns script n (start script is order) old
      → AllFollow script old.run.log.steps → IsNextTurn script old new
      → length old.run.log.steps < length new.run.log.steps
  turn-longer n old new made follows turn =
      let alike : AreAlike (shape_of script) old.run old.run =
      (many-both script is n (start script is order) old old (start-both script is order) made
      made).run in
      ready-moves script old.run alike.first follows
      (λ k above within. next-handed script is old.run.log.steps k) (next_in script old).maker
      turn.ready.above turn.ready.is new.run turn.turn

  told : (n : ℕ) (now : Standing) (made : AreNextTurns script n (start script is order) now)
      → AllFollow script now.run.log.steps → (after : List ℕ)
      → listed_on script n (start script is order) now made after
      ≡ turns_of script now.run.log.steps ++ after
  told zero now made follows after =
      ap (λ (s : Standing). turns_of script s.run.log.steps ++ after) (sym made)
  told (suc n) now made follows after =
      let maker : ℕ = (next_in script made.0).maker in
      let before : AllFollow script made.0.run.log.steps =
      before-turn script made.0 now follows made.1.1 in
      let last : turns_of script now.run.log.steps
      ≡ turns_of script made.0.run.log.steps ++ maker ∷ [] =
      turn-told script maker made.0.run now.run
      (turn-longer n made.0 now made.1.0 before made.1.1) made.1.1.turn in
      told n made.0 made.1.0 before (maker ∷ after)
      ∙ sym (append_assoc (turns_of script made.0.run.log.steps) (maker ∷ []) after)
      ∙ ap (λ (turns : List ℕ). turns ++ after) (sym last)

-- A RUN IN AN ORDER is also the one of the turns that its journal tells
pub again_told : (script : ScriptParts) (order : Order) (run : Layout) → IsSoFar script run
    → IsInOrder script order run → (rule : Rule)
    → IsInOrder script (record { left = turns_of script run.log.steps; rule = rule }) run
again_told script order run so_far whole rule =
    let end : Standing = record { order = whole.last; run = run } in
    let first : Standing = first_standing script order in
    let same : listed_on script whole.turns first end whole.made []
    ≡ turns_of script run.log.steps =
    told script so_far.declared order whole.turns end whole.made so_far.follows []
    ∙ append-nil (turns_of script run.log.steps) in
    subst (λ (turns : List ℕ). IsInOrder script (record { left = turns; rule = rule }) run) same
    (record {
      turns = whole.turns;
      last = record { left = []; rule = rule };
      made = again script rule whole.turns first end whole.made [];
      over = whole.over;
    })
