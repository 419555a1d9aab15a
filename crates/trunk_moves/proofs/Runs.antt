-- EVERY RUN WITH TRUNKS is a run of moves, keeps every trunk, and so all that is promised of runs.
use Rattle.std.proofs.Common.{◌≡◌, ◌≤◌, ◌<◌, ℕ, true, List, [], ◌∷◌, length, refl, sym, subst}
use Rattle.std.proofs.Common.{arith, ◌==◌, eq-eqb}
use Rattle.linx_base.specs.Sides.{other_of}
use Rattle.linx_base.specs.declared.identity.LinkNo.{LinkNo}
use Rattle.linx_base.specs.declared.identity.Side.{Side}
use Rattle.linx_base.specs.declared.identity.Side.TheVariants.{First, Second}
use Rattle.journal.specs.History.{endpoint_by}
use Rattle.journal.specs.Logs.{step_limit}
use Rattle.journal.specs.Shapes.{Shape, node_by}
use Rattle.journal.specs.declared.by.By.{By}
use Rattle.journal.specs.declared.effect.Effect.{Effect}
use Rattle.journal.specs.declared.effect.Step.{Step}
use Rattle.journal.specs.declared.head.Head.{Head}
use Rattle.journal.specs.declared.head.Head.TheVariants.{Close, Ended, Hunt, Open, Restart, Send}
use Rattle.journal.specs.declared.head.Head.TheVariants.{TakeNone, Tick, Wire}
use Rattle.link_laws.specs.Ends.{HasTwoEnds, IsLinkOf, node_at}
use Rattle.link_laws.specs.Laws.{KeepsNodeLaws}
use Rattle.link_laws.specs.Moves.{IsLeft}
use Rattle.link_laws.specs.Runs.{AreFirst, IsRun, IsBoundedRun, first_state}
use Rattle.link_laws.proofs.Moves.Shown.{step_of}
use Rattle.link_laws.proofs.Runs.{runs_are_legal, runs_keep_promises}
use Rattle.trunk.specs.Tells.{TellsSide}
use Rattle.trunk.specs.Events.{TrunkState, delivered, kept_of, new_trunk}
use Rattle.trunk.specs.Keeping.{KeepsTrunk}
use Rattle.trunk.proofs.EachEvent.BothSides.{events_keep}
use Rattle.trunk.proofs.EachEvent.Trunks.{events_tell}
use Rattle.trunk_moves.specs.Grants.{GrantsAnswer, GrantsSide, TrunkRunsGrant}
use Rattle.trunk_moves.specs.Laws.{TrunkRunsAreRuns, TrunkRunsKeepAll}
use Rattle.trunk_moves.specs.Steps.{IsTrunkRun, IsTrunkStep, IsBoundedTrunkRun, Makes}
use Rattle.trunk_moves.specs.Trunks.{AllKept, AllNew, AllUseUpTo, NodesFit, RunTrunks}
use Rattle.trunk_moves.specs.Trunks.{UsesUpTo, links_of, state_of}
use Rattle.trunk_moves.proofs.Facts.{IsKnown, boots_later, hunted_named, new_may}
use Rattle.trunk_moves.proofs.Facts.{open_may, peer_sent}
use Rattle.trunk_moves.proofs.Moved.{IsMoved, close_moved, ended_moved, hunting_moved}
use Rattle.trunk_moves.proofs.Moved.{opening_moved, restarted_kept, restarted_used, restarts_all}
use Rattle.trunk_moves.proofs.Moved.{sending_moved, stay_kept, stay_used}
use Rattle.trunk_moves.proofs.Passed.{finding_moved, may_answer, passing_moved, ticking_moved}
use Rattle.trunk_moves.proofs.Sides.{all_left}

-- ---- before the first step

new_left : (at : Side) (window piece : ℕ)
    → IsLeft first_state (state_of at (new_trunk window piece))
new_left First window piece = record { side = refl; noted = refl; silent = omega arith }
new_left Second window piece = record { side = refl; noted = refl; silent = omega arith }

all_first : (shape : Shape) (trunks : RunTrunks) → AllNew shape trunks
    → AreFirst shape (links_of trunks)
all_first shape trunks new l of_shape side =
    let is = new l of_shape in
    subst (λ (t : TrunkState). IsLeft first_state (state_of side t)) (sym is.made)
    (new_left side is.window is.piece)

new_kept : (shape : Shape) (trunks : RunTrunks) → AllNew shape trunks → AllKept shape trunks
new_kept shape trunks new l of_shape =
    let is = new l of_shape in
    subst KeepsTrunk (sym is.made)
    (events_keep.begins is.window is.piece is.has_window is.has_piece)

new_uses : (window piece : ℕ) → UsesUpTo 0 (new_trunk window piece)
new_uses window piece First = omega arith
new_uses window piece Second = omega arith

new_used : (shape : Shape) (trunks : RunTrunks) → AllNew shape trunks → AllUseUpTo shape 0 trunks
new_used shape trunks new l of_shape =
    let is = new l of_shape in
    subst (UsesUpTo 0) (sym is.made) (new_uses is.window is.piece)

-- ---- each step

module _ (shape : Shape) (P : List Step) (before after : RunTrunks) (known : IsKnown shape P before)
    (by : By) where
  by_head : (head : Head) (es : List Effect) → KeepsNodeLaws shape P (step_of by head es)
      → Makes shape P before after (node_by shape by) (endpoint_by P by) head es
      → IsMoved shape P before after (node_by shape by) (endpoint_by P by) head es
  by_head (Open name) es laws made =
      opening_moved shape P before after known (node_by shape by) name laws.bounds made
      (endpoint_by P by) es
  by_head Close es laws made =
      close_moved shape P before after known (node_by shape by) (endpoint_by P by) made es
  by_head (Send q note answer) es laws made =
      sending_moved shape P before after known by q note answer laws.sends made es
  by_head (TakeNone filter) es laws made =
      finding_moved shape P before after known (node_by shape by) (endpoint_by P by) filter es made
  by_head (Hunt path note) es laws made =
      hunting_moved shape P before after known (node_by shape by) (endpoint_by P by) path note
      laws.bounds made es
  by_head (Restart k) es laws made = record {
    moves = restarts_all shape P before after known k.0 made;
    kept = restarted_kept shape P before after known k.0 made;
    used = restarted_used shape P before after known k.0 made;
  }
  by_head (Wire l from verdict) es laws made =
      passing_moved shape P before after known (node_by shape by) (endpoint_by P by) l from verdict
      es made
  by_head (Tick l side) es laws made =
      ticking_moved shape P before after known (node_by shape by) (endpoint_by P by) l side es made
  by_head Ended es laws made =
      ended_moved shape P before after known (node_by shape by) (endpoint_by P by) made es
  by_head head es laws made = record {
    moves = all_left shape before after made;
    kept = stay_kept shape P before after known made;
    used = stay_used shape P before after known made;
  }

-- what a run has
record HasRun (shape : Shape) (P : List Step) (trunks : RunTrunks) : Type 0 where
  run : IsRun shape P (links_of trunks)
  kept : AllKept shape trunks
  used : AllUseUpTo shape (length P) trunks

run_has : (shape : Shape) → HasTwoEnds shape → NodesFit shape → (P : List Step)
    (trunks : RunTrunks) → length P ≤ step_limit → IsTrunkRun shape P trunks
    → HasRun shape P trunks
run_has shape two nodes [] trunks fits new = record {
  run = all_first shape trunks new;
  kept = new_kept shape trunks new;
  used = new_used shape trunks new;
}
run_has shape two nodes (s ∷ P) after fits run =
    let before : RunTrunks = run.0 in
    let step : IsTrunkStep shape P run.0 s after = run.1.1 in
    let was = run_has shape two nodes P run.0 (omega arith) run.1.0 in
    let whole : IsBoundedRun shape P (links_of run.0) =
    record { two_ends = two; fits = omega arith; run = was.run } in
    let known : IsKnown shape P run.0 =
    record {
      two = two;
      nodes = nodes;
      room = omega arith;
      run = was.run;
      sound = runs_are_legal shape P (links_of run.0) whole;
      kept = was.kept;
      used = was.used;
    } in
    let moved = by_head shape P run.0 after known s.by s.head s.effects step.laws
    step.makes in
    record {
      run = (links_of run.0, (was.run, record { laws = step.laws; moves = moved.moves }));
      kept = moved.kept;
      used = moved.used;
    }

pub trunk_runs_are_runs : TrunkRunsAreRuns
trunk_runs_are_runs shape P trunks whole =
    let has = run_has shape whole.two_ends whole.nodes P trunks whole.fits whole.run in
    record {
      run = record { two_ends = whole.two_ends; fits = whole.fits; run = has.run };
      kept = has.kept;
      used = has.used;
    }

pub trunk_runs_keep_all : TrunkRunsKeepAll
trunk_runs_keep_all shape P trunks whole =
    let carried = trunk_runs_are_runs shape P trunks whole in
    record {
      sound = runs_are_legal shape P (links_of trunks) carried.run;
      promises = runs_keep_promises shape P (links_of trunks) carried.run;
    }

-- ---- what the next step may hand to trunks

known_of : (shape : Shape) (P : List Step) (trunks : RunTrunks) → IsBoundedTrunkRun shape P trunks
    → length P < step_limit → IsKnown shape P trunks
known_of shape P trunks whole room =
    let has = run_has shape whole.two_ends whole.nodes P trunks whole.fits whole.run in
    record {
      two = whole.two_ends;
      nodes = whole.nodes;
      room = room;
      run = has.run;
      sound = runs_are_legal shape P (links_of trunks)
          (record { two_ends = whole.two_ends; fits = whole.fits; run = has.run });
      kept = has.kept;
      used = has.used;
    }

module _ (shape : Shape) (P : List Step) (trunks : RunTrunks) (known : IsKnown shape P trunks)
    (l : LinkNo) (of_shape : IsLinkOf shape l) where
  side_grants : (at : Side) → GrantsSide P (node_at shape l at) l at (trunks l.0)
  side_grants at =
      let n : ℕ = node_at shape l at in
      let on : (node_at shape l at == n) ≡ true = eq-eqb n n refl in
      record {
        opens = new_may shape P trunks known l of_shape at n on;
        publishes = open_may shape P trunks known l of_shape at n on;
        sends = λ i x b signal alive lives is_signal. record {
          sender = open_may shape P trunks known l of_shape at n on i alive;
          receiver = (peer_sent shape P trunks known l of_shape at n on x b lives).known;
          is_signal = is_signal;
        };
        boots = boots_later shape P trunks known l of_shape at n on;
        asks = hunted_named shape P known.sound.legal n l;
      }

  answer_grants : (from : Side)
      → GrantsAnswer P (node_at shape l (other_of from)) from (trunks l.0)
  answer_grants from = record {
    answers = λ keep heard read name told i found.
        may_answer shape P trunks known l of_shape from keep heard read name
        (subst (TellsSide (kept_of (other_of from) (trunks l.0))
        (kept_of (other_of from) (delivered from 0 keep heard (trunks l.0)))
        (kept_of from (trunks l.0))) told
        (events_tell.packets.side from 0 keep heard (trunks l.0) (known.kept l of_shape) read))
        i found;
  }

pub trunk_runs_grant : TrunkRunsGrant
trunk_runs_grant shape P trunks whole room l of_shape from =
    let known = known_of shape P trunks whole room in (
      side_grants shape P trunks known l of_shape from,
      answer_grants shape P trunks known l of_shape from,
    )
