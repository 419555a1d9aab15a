-- A whole run of a script, by threads or not, is also the one in the order of its turns, as its
-- journal tells them.
use Rattle.std.proofs.Common.{◌≡◌, ℕ, Bool, true, List, [], ◌∷◌, refl, sym, ◌∙◌, ap, subst, ◌&&◌}
use Rattle.std.proofs.Common.{append-nil, true≢false}
use Rattle.linx_base.specs.declared.name.Names.{Names}
use Rattle.journal.specs.Logs.{Log}
use Rattle.journal.specs.Shapes.{Shape}
use Rattle.journal.specs.declared.effect.Step.{Step}
use Rattle.run_trunks.specs.States.{new_trunks, trunks_of}
use Rattle.script_lang.specs.Fits.{IsScript}
use Rattle.script_lang.specs.Parts.{ScriptParts}
use Rattle.trunk.specs.Events.{TrunkState}
use Rattle.trunk_moves.specs.Trunks.{Become, RunTrunks}
use Rattle.fabric.specs.Machine.{all_have_ended}
use Rattle.fabric.specs.Run.{Layout}
use Rattle.stage.specs.Plays.{AllFollow, IsScriptRun, IsSoFar}
use Rattle.stage.specs.Turns.{is_over, shape_of}
use Rattle.stage.proofs.Plans.EachStep.{new-planned}
use Rattle.stage.proofs.Plans.OneRun.{one-run}
use Rattle.stage.proofs.Plans.SameTrunks.{still_alike}
use Rattle.stage.proofs.Rounds.WholeRuns.{stirring-not_over}
use Rattle.order_rules.specs.declared.rule.Rule.{Rule}
use Rattle.orders.specs.Laws.{IsPlayedAgain}
use Rattle.orders.specs.Runs.{IsInOrder}
use Rattle.orders.specs.Turns.{turns_of}
use Rattle.orders.proofs.Replay.Begins.{between-on}
use Rattle.orders.proofs.Replay.Between.{begins}
use Rattle.orders.proofs.Replay.NextSteps.{IsNextStep, laid, laid-same, next-step, state}
use Rattle.orders.proofs.Replay.Settles.{within-on}
use Rattle.orders.proofs.Replay.Within.{Stands, stands_between, stands_within}

module _ (script : ScriptParts) (declared : IsScript script) (rule : Rule) where
  abbrev shape : Shape
  shape = shape_of script

  abbrev StandsAt : List Step → List TrunkState → Type 0
  StandsAt P trunks = Stands script declared rule (state script P trunks)

  -- one step more
  goes-on : (P : List Step) (s : Step) (old new : List TrunkState) → StandsAt P old
      → IsNextStep script P old new s → AllFollow script (s ∷ P) → StandsAt (s ∷ P) new
  goes-on P s old new (stands_between was) next follows =
      between-on script declared rule P old new was s next follows
  goes-on P s old new (stands_within turn moves) next follows =
      within-on script declared rule P old new turn moves s next follows

  -- A RUN STANDS between two turns or within one, step by step
  stands : (P : List Step) (there : RunTrunks) → IsScriptRun script P there → AllFollow script P
      → StandsAt P (laid script P there)
  stands [] there run follows = stands_between (begins script declared rule)
  stands (s ∷ P) there run follows =
      goes-on P s (laid script P run.0) (laid script (s ∷ P) there)
      (stands P run.0 run.1.0 (λ k above within. (follows k above within).0))
      (next-step script P s run.0 there (laid script P run.0) (laid script (s ∷ P) there)
      (laid-same script P run.0 run.1.0) (laid-same script (s ∷ P) there run) run.1.0 run.1.1
      follows) follows

  -- with the trunks that the run has, or new ones where it made no step
  record HasEnd (P : List Step) (trunks : List TrunkState) : Type 0 where
    pub there : List TrunkState
    pub same : Become (shape_of script) (trunks_of there) (trunks_of trunks)
    pub run : IsScriptRun script P (trunks_of there)
    pub place : Stands script declared rule (state script P there)

  has-end : (P : List Step) (trunks : List TrunkState) → IsScriptRun script P (trunks_of trunks)
      → AllFollow script P → HasEnd P trunks
  has-end [] trunks run follows =
      let first : RunTrunks = trunks_of (new_trunks script.links) in
      record {
        there = new_trunks script.links;
        same = λ l of_shape. sym (run.0.1 l of_shape);
        run = one-run script declared [] first first (new-planned script declared)
            (new-planned script declared);
        place = stands_between (begins script declared rule);
      }
  has-end (s ∷ P) trunks run follows = record {
    there = trunks;
    same = λ l of_shape. refl;
    run = run;
    place = goes-on P s (laid script P run.0) trunks
        (stands P run.0 run.1.0 (λ k above within. (follows k above within).0))
        (next-step script P s run.0 (trunks_of trunks) (laid script P run.0) trunks
        (laid-same script P run.0 run.1.0) (λ l of_shape. refl) run.1.0 run.1.1 follows) follows;
  }

  -- where all is over, it stands between two turns: after the last one
  over-same : (P : List Step) (one two : List TrunkState)
      → Become shape (trunks_of one) (trunks_of two)
      → is_over (state script P one) ≡ is_over (state script P two)
  over-same P one two same =
      ap (λ (still : Bool). all_have_ended shape P && still)
      (still_alike shape P (trunks_of one) (trunks_of two) same)

  in-order : (P : List Step) (trunks : List TrunkState) → is_over (state script P trunks) ≡ true
      → StandsAt P trunks
      → IsInOrder script (record { left = turns_of script P; rule = rule }) (state script P trunks)
  in-order P trunks over (stands_between was) =
      subst (λ (turns : List ℕ). IsInOrder script (record { left = turns; rule = rule })
      (state script P trunks)) (append-nil (turns_of script P)) (record {
        turns = was.turns;
        last = record { left = []; rule = rule };
        made = was.made [];
        over = over;
      })
  in-order P trunks over (stands_within turn moves) =
      absurd (true≢false (sym over
      ∙ stirring-not_over script (state script P trunks) refl turn.link turn.way.of_shape moves))

abbrev log : List Step → Names → Log
log P names = record { names = names; steps = P }

-- A WHOLE RUN COMES AGAIN in the order of its turns
pub replayed : (script : ScriptParts) (run : Layout) → IsSoFar script run → is_over run ≡ true
    → (rule : Rule)
    → IsPlayedAgain script (record { left = turns_of script run.log.steps; rule = rule }) run
replayed script run so_far over rule =
    let P : List Step = run.log.steps in
    let end : HasEnd script so_far.declared rule P run.trunks =
    has-end script so_far.declared rule P run.trunks so_far.run so_far.follows in
    let again : Layout = state script P end.there in
    let over_again : is_over again ≡ true =
    over-same script so_far.declared rule P end.there run.trunks end.same
    ∙ ap (λ (s : Shape).
    is_over (let f : Layout = record { shape = s; log = run.log; trunks = run.trunks } in f))
    (sym so_far.shape)
    ∙ over in
    record {
      again = again;
      so_far = record {
        declared = so_far.declared;
        shape = refl;
        names = refl;
        legal = so_far.legal;
        run = end.run;
        follows = so_far.follows;
      };
      log = ap (log P) (sym so_far.names);
      in_order = in-order script so_far.declared rule P end.there over_again end.place;
    }
