-- A run of the machine is a run with trunks, so its journal is legal, and what a trunk asks for may
-- be handed to it.
use Rattle.std.proofs.Common.{◌≡◌, ℕ, zero, suc, ◌<◌, ◌≤◌, false, List, [], ◌∷◌, length, Some, refl}
use Rattle.std.proofs.Common.{sym, ◌∙◌, arith, ◌==◌, slice_get, eqb-true, eq-eqb}
use Rattle.std.specs.List.{AllByRecursion}
use Rattle.std.proofs.lemmas.Bool.{false_from_ne_true}
use Rattle.linx_base.specs.Sides.{other_of}
use Rattle.linx_base.specs.declared.frame.LinkDecl.{LinkDecl}
use Rattle.linx_base.specs.declared.identity.LinkNo.{LinkNo}
use Rattle.linx_base.specs.declared.identity.Side.{Side}
use Rattle.linx_base.specs.declared.identity.Side.TheVariants.{First, Second}
use Rattle.journal.specs.Logs.{step_limit}
use Rattle.journal.specs.Shapes.{Shape}
use Rattle.journal.specs.declared.effect.Step.{Step}
use Rattle.link_laws.specs.Ends.{HasTwoEnds, IsLinkOf, end_of, link_at, node_at}
use Rattle.link_laws.specs.Laws.{IsLegal, IsLegalStep}
use Rattle.run_trunks.specs.States.{trunks_of}
use Rattle.trunk_moves.specs.Grants.{GrantsAnswer, GrantsSide}
use Rattle.trunk_moves.specs.Laws.{KeepsAll}
use Rattle.trunk_moves.specs.Steps.{IsTrunkRun, IsTrunkStep, IsBoundedTrunkRun}
use Rattle.trunk_moves.specs.Trunks.{NodesFit, RunTrunks}
use Rattle.trunk_moves.proofs.Runs.{trunk_runs_grant, trunk_runs_keep_all}
use Rattle.run_numbers.specs.Laws.{GrantsNumbers, GrantsNumbersThen}
use Rattle.run_numbers.proofs.Runs.{runs_have_numbers}
use Rattle.fabric.specs.Remains.{IsKept, IsLaidOut, IsLink, Parts}
use Rattle.fabric.specs.Run.{IsReached, Layout}

pub reached-run : (nodes : ℕ) (shape : Shape) (P : List Step) (trunks : RunTrunks)
    → IsReached nodes shape P trunks → IsTrunkRun shape P trunks
reached-run nodes shape [] trunks reached = reached.0
reached-run nodes shape (s ∷ P) trunks reached =
    (reached.0, (reached-run nodes shape P reached.0 reached.1.0, reached.1.1.0))

-- a link of a layout, by its number
pub link-is : (nodes : ℕ) (links : List LinkDecl) (k : ℕ) → AllByRecursion (IsLink nodes) links
    → k < length links → (link : LinkDecl) × ((slice_get links k ≡ Some link) × IsLink nodes link)
link-is nodes [] k all within = absurd (omega arith)
link-is nodes (link ∷ links) zero all within = (link, (refl, all.0))
link-is nodes (link ∷ links) (suc k) all within = link-is nodes links k all.1 (omega arith)

module _ (nodes : ℕ) (shape : Shape) (laid : IsLaidOut nodes shape) where
  module _ (link : LinkDecl) (is : IsLink nodes link) where
    differ : (side : Side) → (end_of link side == end_of link (other_of side)) ≡ false
    differ First = is.apart
    differ Second = false_from_ne_true (link.second.0 == link.first.0)
        (λ same. Rattle.std.proofs.lemmas.Bool.true≢false
        (sym (eq-eqb link.first.0 link.second.0 (sym (eqb-true link.second.0 link.first.0 same)))
        ∙ is.apart))

    fits : (side : Side) → end_of link side < 4294967296
    fits First =
        let b : link.first.0 ≤ nodes = is.first.1 in
        let n : nodes < 4294967296 = laid.numbered in
        omega arith
    fits Second =
        let b : link.second.0 ≤ nodes = is.second.1 in
        let n : nodes < 4294967296 = laid.numbered in
        omega arith

  -- a link of the shape is one that was declared
  pub declared-at : (k : ℕ) → 0 < k → k ≤ length shape.links
      → (link : LinkDecl) × ((link_at shape k ≡ Some link) × IsLink nodes link)
  declared-at zero above within = absurd (omega arith)
  declared-at (suc k) above within = link-is nodes shape.links k laid.linked (omega arith)

  pub two-ends : HasTwoEnds shape
  two-ends l of_shape side =
      let at = declared-at l.0 of_shape.0 of_shape.1 in rw (at.1.0) (differ at.0 at.1.1 side)

  pub nodes-fit : NodesFit shape
  nodes-fit l of_shape side =
      let at = declared-at l.0 of_shape.0 of_shape.1 in rw (at.1.0) (fits at.0 at.1.1 side)

-- A RUN on such a layout is whole, and legal
module _ (nodes : ℕ) (shape : Shape) (laid : IsLaidOut nodes shape) (P : List Step)
    (trunks : RunTrunks) (fits : length P ≤ step_limit) (run : IsTrunkRun shape P trunks) where
  pub whole-of : IsBoundedTrunkRun shape P trunks
  whole-of = record {
    two_ends = two-ends nodes shape laid;
    nodes = nodes-fit nodes shape laid;
    fits = fits;
    run = run;
  }

  pub legal-of : IsLegal shape P
  legal-of = (trunk_runs_keep_all shape P trunks whole-of).sound.legal

-- WHAT A KEPT FABRIC HAS
module _ (f : Layout) (parts : Parts) (kept : IsKept f parts) where
  pub run-kept : IsTrunkRun f.shape f.log.steps (trunks_of f.trunks)
  run-kept =
      reached-run (length f.log.names.nodes) f.shape f.log.steps (trunks_of f.trunks) kept.reached

  pub whole-run : IsBoundedTrunkRun f.shape f.log.steps (trunks_of f.trunks)
  whole-run =
      whole-of (length f.log.names.nodes) f.shape kept.laid_out f.log.steps (trunks_of f.trunks)
      kept.short run-kept

  pub keeps-all : KeepsAll f.shape f.log.steps (trunks_of f.trunks)
  keeps-all = trunk_runs_keep_all f.shape f.log.steps (trunks_of f.trunks) whole-run

  -- its journal is legal
  pub legal-kept : IsLegal f.shape f.log.steps
  legal-kept = keeps-all.sound.legal

  -- the next step is legal
  pub legal-next : (s : Step) (after : RunTrunks) → length f.log.steps < step_limit
      → IsTrunkStep f.shape f.log.steps (trunks_of f.trunks) s after
      → IsLegalStep f.shape f.log.steps s
  legal-next s after room step =
      (legal-of (length f.log.names.nodes) f.shape kept.laid_out (s ∷ f.log.steps) after room
      (trunks_of f.trunks, (run-kept, step))).1

  -- and may hand to each side what trunks ask for
  module _ (room : length f.log.steps < step_limit) (l : LinkNo) (of_shape : IsLinkOf f.shape l)
      (from : Side) where
    pub grants-side : GrantsSide f.log.steps (node_at f.shape l from) l from
        (trunks_of f.trunks l.0)
    grants-side = (trunk_runs_grant f.shape f.log.steps (trunks_of f.trunks) whole-run room l
        of_shape from).0

    pub grants-answer : GrantsAnswer f.log.steps (node_at f.shape l (other_of from)) from
        (trunks_of f.trunks l.0)
    grants-answer = (trunk_runs_grant f.shape f.log.steps (trunks_of f.trunks) whole-run room l
        of_shape from).1

    -- and each side has the numbers for it, then and once a packet has come
    pub grants-numbers : GrantsNumbers from (trunks_of f.trunks l.0)
    grants-numbers = (runs_have_numbers f.shape f.log.steps (trunks_of f.trunks) whole-run room l
        of_shape from).0

    pub grants-then : GrantsNumbersThen f.log.steps (node_at f.shape l (other_of from)) l from
        (trunks_of f.trunks l.0)
    grants-then = (runs_have_numbers f.shape f.log.steps (trunks_of f.trunks) whole-run room l
        of_shape from).1
