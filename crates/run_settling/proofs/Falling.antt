-- A packet that comes over a link of a run, with all that its node answers, leaves less to do.
use Rattle.std.proofs.Common.{◌≡◌, List, sym, subst}
use Rattle.linx_base.specs.Sides.{other_of}
use Rattle.linx_base.specs.declared.frame.Verdict.TheVariants.{Deliver}
use Rattle.linx_base.specs.declared.identity.LinkNo.{LinkNo}
use Rattle.linx_base.specs.declared.identity.Side.{Side}
use Rattle.journal.specs.Shapes.{Shape}
use Rattle.journal.specs.declared.effect.Step.{Step}
use Rattle.journal.specs.declared.head.Head.TheVariants.{Wire}
use Rattle.link_laws.specs.Ends.{node_at}
use Rattle.link_settling.specs.Measure.{Falls}
use Rattle.trunk.specs.Events.{TrunkState}
use Rattle.trunk_moves.specs.Trunks.{RunTrunks}
use Rattle.trunk_moves.proofs.Sides.{is_trunk}
use Rattle.run_settling.specs.Asking.{left_over}
use Rattle.run_settling.specs.Laws.{RunGoesOn}
use Rattle.run_settling.proofs.Adding.{left}
use Rattle.run_settling.proofs.Lessening.{comes_less}
use Rattle.run_settling.proofs.Settling.{came}

pub falls : (shape : Shape) (P : List Step) (before : RunTrunks) (s : Step) (after : RunTrunks)
    → RunGoesOn shape P before s after → (l : LinkNo) (from : Side) → s.head ≡ Wire l from Deliver
    → Falls (left_over l after) (left_over l before)
falls shape P before s after goes l from is =
    let c = came shape P before s after goes l from is in
    subst (λ (t : TrunkState). Falls (left t.link) (left_over l before))
    (sym (is_trunk shape before after l c.passes.of_shape c.passes.trunk c.passes.makes))
    (comes_less P (node_at shape l (other_of from)) l from s.effects (before l.0) c.passes.trunk
    c.kept c.passes.flies c.named c.grants c.passes.meets)
