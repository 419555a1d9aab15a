-- A run that stands between two turns, and one more turn.
use Rattle.std.proofs.Common.{◌≡◌, ℕ, suc, ◌<◌, ◌≤◌, Bool, true, false, List, [], ◌∷◌, ◌++◌, length}
use Rattle.std.proofs.Common.{None, refl, sym, ◌∙◌, ap, subst, arith, append_assoc, true≢false}
use Rattle.journal.specs.Logs.{Log}
use Rattle.script_lang.specs.Fits.{IsScript}
use Rattle.script_lang.specs.Parts.{ScriptParts}
use Rattle.fabric.specs.Run.{Layout}
use Rattle.stage.specs.Plays.{AllFollow}
use Rattle.stage.specs.Ready.{is_ready}
use Rattle.stage.specs.Settlings.{settler_in}
use Rattle.stage.specs.Turns.{IsTurnOf, first_layout, is_over, makers, shape_of}
use Rattle.stage.proofs.Rounds.WhoIsReady.{over-unready, unready-stays}
use Rattle.run_orders.proofs.States.{AreAlike, alike-same}
use Rattle.run_orders.proofs.Turns.{turn-alike}
use Rattle.order_rules.specs.declared.rule.Rule.{Rule}
use Rattle.orders.specs.Makers.{IsReadyMaker}
use Rattle.orders.specs.Runs.{AreNextTurns, IsNextTurn, standing}
use Rattle.orders.specs.Turns.{turns_of}
use Rattle.orders.proofs.Both.{ends}
use Rattle.orders.proofs.Listed.{first-named}
use Rattle.orders.proofs.Told.{turn-told}
use Rattle.orders.proofs.Turns.{turn-next}

module _ (script : ScriptParts) (declared : IsScript script) (rule : Rule) where
  -- IT STANDS BETWEEN TWO TURNS: it was made by those that its journal tells, whatever is listed
  -- behind them, and nobody settles a link
  pub record IsBetween (f : Layout) : Type 0 where
    pub shape : f.shape ≡ shape_of script
    pub follows : AllFollow script f.log.steps
    pub calm : settler_in f ≡ None
    pub turns : ℕ
    pub made :
        (after : List ℕ)
        → AreNextTurns script turns
        (standing (turns_of script f.log.steps ++ after) rule (first_layout script))
        (standing after rule f)

  -- before the first turn it does
  pub begins : IsBetween (first_layout script)
  begins = record {
    shape = refl;
    follows = λ k above within. tt;
    calm = refl;
    turns = 0;
    made = λ after. refl;
  }

  -- ONE MORE TURN, which adds steps
  module _ (old new : Layout) (was : IsBetween old) (n : ℕ) (above : 0 < n)
      (within : n ≤ makers script) (turn : IsTurnOf script n old new)
      (longer : length old.log.steps < length new.log.steps) where
    -- its maker was ready
    ready : is_ready script old n ≡ true
    ready = go (is_ready script old n) refl
      where
        go : (b : Bool) → is_ready script old n ≡ b → is_ready script old n ≡ true
        go true is = is
        go false is =
            let same : AreAlike (shape_of script) old new =
            turn-alike script (ends script declared) old old
            (alike-same (shape_of script) old was.shape) old new n within
            (unready-stays script old was.follows n above is) turn in
            let long : length old.log.steps ≡ length new.log.steps =
            ap (λ (log : Log). length log.steps) same.log in
            absurd (omega (arith, long, longer))

    ready_maker : IsReadyMaker script old n
    ready_maker = record { above = above; within = within; is = ready }

    -- and not all was over
    running : is_over old ≡ false
    running = go (is_over old) refl
      where
        go : (b : Bool) → is_over old ≡ b → is_over old ≡ false
        go true is =
            absurd (true≢false (sym ready ∙ over-unready script old was.shape n above within is))
        go false is = is

    next_turn : (after : List ℕ)
        → IsNextTurn script (standing (n ∷ after) rule old) (standing after rule new)
    next_turn after =
        turn-next script (standing (n ∷ after) rule old) (record { left = after; rule = rule }) n new
        (first-named script n after rule old ready_maker) running ready_maker turn

    -- it is told behind those before it
    told : (after : List ℕ)
        → turns_of script old.log.steps ++ n ∷ after ≡ turns_of script new.log.steps ++ after
    told after =
        sym (append_assoc (turns_of script old.log.steps) (n ∷ []) after)
        ∙ ap (λ (turns : List ℕ). turns ++ after) (sym (turn-told script n old new longer turn))

    pub more-turns : new.shape ≡ shape_of script → AllFollow script new.log.steps
        → settler_in new ≡ None → IsBetween new
    more-turns shape follows calm = record {
      shape = shape;
      follows = follows;
      calm = calm;
      turns = suc was.turns;
      made = λ after. (
        standing (n ∷ after) rule old,
        (
          subst (λ (turns : List ℕ). AreNextTurns script was.turns
              (standing turns rule (first_layout script)) (standing (n ∷ after) rule old))
              (told after) (was.made (n ∷ after)),
          next_turn after,
        ),
      );
    }
