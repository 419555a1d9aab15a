-- EVERY RUN IS LEGAL, hangs together with the records of its links, and keeps its promises.
use Rattle.std.proofs.Common.{◌≤◌, List, [], ◌∷◌, length, refl, arith}
use Rattle.linx_base.specs.Sides.{other_of}
use Rattle.journal.specs.History.{endpoint_by}
use Rattle.journal.specs.Logs.{step_limit}
use Rattle.journal.specs.Shapes.{Shape, node_by}
use Rattle.journal.specs.declared.by.By.{By}
use Rattle.journal.specs.declared.effect.Effect.{Effect}
use Rattle.journal.specs.declared.effect.Step.{Step}
use Rattle.journal.specs.declared.head.Head.{Head}
use Rattle.journal.specs.declared.head.Head.TheVariants.{Close, Ended, Hunt, Open, Restart, Send}
use Rattle.journal.specs.declared.head.Head.TheVariants.{TakeNone, Tick, Wire}
use Rattle.journal.proofs.Openings.{IsShort}
use Rattle.link_laws.specs.Ends.{HasTwoEnds, node_at}
use Rattle.link_laws.specs.Sides.{AreLinksKept, Links, records_of}
use Rattle.link_laws.specs.Laws.{IsLegal, KeepsNodeLaws}
use Rattle.link_laws.specs.Moves.{IsMove, Moves}
use Rattle.link_laws.specs.Promises.{KeepsLinkPromises}
use Rattle.link_laws.specs.Runs.{IsBoundedRun, IsRun, KeepsPromises, KeepsThroughout}
use Rattle.link_laws.specs.Runs.{NothingVanishesThere, RunsAreLegal, RunsKeepPromises}
use Rattle.link_laws.proofs.Promises.Arrivals.{all_carried}
use Rattle.link_laws.proofs.Moves.Shown.{IsGood, IsKnown, step_of}
use Rattle.link_laws.proofs.Legal.{legal_plain}
use Rattle.link_laws.proofs.Moves.Closes.{close_head, ended_head, ending_good}
use Rattle.link_laws.proofs.Moves.Hunts.{hunting_good}
use Rattle.link_laws.proofs.Moves.Openings.{opening_good}
use Rattle.link_laws.proofs.Moves.PacketsAndTicks.{passing_good, ticking_good}
use Rattle.link_laws.proofs.Moves.QuietSteps.{finding_good, quiet_good, resting_still}
use Rattle.link_laws.proofs.Moves.Restarts.{restarting_good}
use Rattle.link_laws.proofs.Moves.Sends.{sending_good}
use Rattle.link_laws.proofs.Sides.AtTheBeginning.{links_new}
use Rattle.link_laws.proofs.Promises.OneNode.{keeps-node_promises}
use Rattle.link_laws.proofs.Promises.Stillness.{nothing_vanishes}
use Rattle.link_laws.proofs.Peers.AttachesBetweenLiving.{between_living}
use Rattle.link_laws.proofs.Hunts.UnfoundPeers.{unfound}
use Rattle.link_laws.proofs.Hunts.UnfoundNames.{unfound_here}
use Rattle.link_laws.proofs.Promises.Closes.{EachIsSoFar, IsSoFar, all_got_fronts, all_told_whole}
use Rattle.link_laws.proofs.Promises.Closes.{never_after_told}

-- EACH MOVE is legal, keeps the links and what is promised
module _ (shape : Shape) (P : List Step) (before after : Links) (known : IsKnown shape P before)
    (by : By) where
  by_head : (head : Head) (es : List Effect) → KeepsNodeLaws shape P (step_of by head es)
      → Moves shape P before after (node_by shape by) (endpoint_by P by) head es
      → IsGood shape P (step_of by head es) after
  by_head (Open name) es laws moves =
      opening_good shape P before after known by name moves es laws
  by_head Close es laws moves =
      ending_good shape P before after known by Close (close_head shape P) es laws laws.effects
      moves
  by_head (Send q note answer) es laws moves =
      sending_good shape P before after known by q note answer es laws moves
  by_head (TakeNone filter) es laws moves =
      finding_good shape P before after known by filter es laws moves
  by_head (Hunt path note) es laws moves =
      hunting_good shape P before after known by note es path laws moves
  by_head (Restart node) es laws moves =
      restarting_good shape P before after known by node moves es laws
  by_head (Wire l from verdict) es laws moves =
      passing_good shape P before after known by l from verdict es laws moves
  by_head (Tick l side) es laws moves =
      ticking_good shape P before after known by l side es laws moves
  by_head Ended es laws moves =
      ending_good shape P before after known by Ended (ended_head shape P) es laws laws.effects
      moves
  by_head head es laws moves =
      quiet_good shape P before after known by head es refl
      (legal_plain shape P by head es refl laws) moves

pub move_good : (shape : Shape) (P : List Step) (before after : Links) → IsKnown shape P before
    → (s : Step) → IsMove shape P before s after → IsGood shape P s after
move_good shape P before after known s move =
    by_head shape P before after known s.by s.head s.effects move.laws move.moves

-- what a run has kept
record HasKept (shape : Shape) (P : List Step) (links : Links) : Type 0 where
  legal : IsLegal shape P
  kept : AreLinksKept shape P links
  promised : KeepsLinkPromises shape P

run_kept : (shape : Shape) → HasTwoEnds shape → (P : List Step) (links : Links)
    → length P ≤ step_limit → IsRun shape P links → HasKept shape P links
run_kept shape two [] links fits first = record {
  legal = tt;
  kept = links_new shape links first;
  promised = tt;
}
run_kept shape two (s ∷ P) after fits run =
    let was = run_kept shape two P run.0 (omega arith) run.1.0 in
    let known : IsKnown shape P run.0 =
    record { two = two; room = omega arith; legal = was.legal; kept = was.kept } in
    let good = move_good shape P run.0 after known s run.1.1 in
    record {
      legal = (was.legal, good.legal);
      kept = good.kept;
      promised = (was.promised, good.promised);
    }

has_kept : (shape : Shape) (P : List Step) (links : Links) → IsBoundedRun shape P links
    → HasKept shape P links
has_kept shape P links whole = run_kept shape whole.two_ends P links whole.fits whole.run

pub runs_are_legal : RunsAreLegal
runs_are_legal shape P links whole =
    let kept = has_kept shape P links whole in
    record { legal = kept.legal; linked = kept.kept }

-- nothing vanishes on any side
vanishes_none : (shape : Shape) (P : List Step) (links : Links) → AreLinksKept shape P links
    → NothingVanishesThere shape P links
vanishes_none shape P links kept l of_shape side quiet a b on open_ =
    nothing_vanishes P (node_at shape l side) (node_at shape l (other_of side)) l
    (links l.0 side).side (links l.0 (other_of side)).side (links l.0 (other_of side)).noted
    (kept.linked l of_shape side) (kept.linked l of_shape (other_of side))
    (kept.trunks l of_shape side).frees_closed.0 quiet (kept.hunted l of_shape side) a b on open_

short : (P : List Step) → length P ≤ step_limit → IsShort P
short P fits = omega arith

-- what each front of a run has kept
so_far : (shape : Shape) (P : List Step) (links : Links) → IsBoundedRun shape P links
    → IsSoFar shape P
so_far shape P links whole =
    let kept = has_kept shape P links whole in
    record {
      legal = kept.legal;
      short = short P whole.fits;
      carried = all_carried shape P (records_of links) kept.kept.trunks kept.kept.linked;
    }

each_so_far : (shape : Shape) → HasTwoEnds shape → (P : List Step) (links : Links)
    → length P ≤ step_limit → IsRun shape P links → EachIsSoFar shape P
each_so_far shape two [] links fits first =
    so_far shape [] links (record { two_ends = two; fits = fits; run = first })
each_so_far shape two (s ∷ P) after fits run = (
  so_far shape (s ∷ P) after (record { two_ends = two; fits = fits; run = run }),
  each_so_far shape two P run.0 (omega arith) run.1.0,
)

-- what is promised of the last state
promises_now : (shape : Shape) (P : List Step) (links : Links) → IsBoundedRun shape P links
    → KeepsPromises shape P links
promises_now shape P links whole =
    let kept = has_kept shape P links whole in
    let each = each_so_far shape whole.two_ends P links whole.fits whole.run in
    record {
      nodes = keeps-node_promises shape P kept.legal (short P whole.fits);
      carried = all_carried shape P (records_of links) kept.kept.trunks kept.kept.linked;
      fronts = all_got_fronts shape P each;
      told_whole = all_told_whole shape P each;
      told_last = never_after_told shape P each;
      packets = kept.promised;
      unfound = unfound shape P kept.legal (short P whole.fits);
      unfound_here = unfound_here shape P kept.legal (short P whole.fits);
      between_living = between_living shape P kept.legal (short P whole.fits);
      vanishes_none = vanishes_none shape P links kept.kept;
      still = resting_still shape P links kept.kept;
    }

-- and of each state before it, since each front of a run is a run
throughout : (shape : Shape) → HasTwoEnds shape → (P : List Step) (links : Links)
    → length P ≤ step_limit → IsRun shape P links → KeepsThroughout shape P links
throughout shape two [] links fits first =
    (promises_now shape [] links (record { two_ends = two; fits = fits; run = first }), first)
throughout shape two (s ∷ P) after fits run = (
  promises_now shape (s ∷ P) after (record { two_ends = two; fits = fits; run = run }),
  (run.0, (throughout shape two P run.0 (omega arith) run.1.0, run.1.1)),
)

pub runs_keep_promises : RunsKeepPromises
runs_keep_promises shape P links whole =
    throughout shape whole.two_ends P links whole.fits whole.run

-- WHAT IS PROMISED THROUGHOUT is promised now
pub promised_now : (shape : Shape) (P : List Step) (links : Links) → KeepsThroughout shape P links
    → KeepsPromises shape P links
promised_now shape [] links kept = kept.0
promised_now shape (s ∷ P) links kept = kept.0
