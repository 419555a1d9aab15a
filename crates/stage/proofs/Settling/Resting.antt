-- Where no link stirs each rests: it is cut and up at neither end, or both sides are up with each
-- other, and what each said is what the other was given.
use Rattle.std.proofs.Common.{◌≡◌, ◌≤◌, true, List, length}
use Rattle.linx_base.specs.declared.identity.LinkNo.{LinkNo}
use Rattle.linx_base.specs.declared.identity.Side.TheVariants.{First, Second}
use Rattle.journal.specs.Shapes.{Shape}
use Rattle.journal.specs.declared.effect.Step.{Step}
use Rattle.link_laws.specs.Ends.{IsLinkOf}
use Rattle.link_laws.specs.Moves.{AllResting, IsResting}
use Rattle.run_trunks.specs.States.{trunks_of}
use Rattle.trunk_moves.specs.Steps.{IsBoundedTrunkRun, Rests}
use Rattle.trunk_moves.specs.Trunks.{RunTrunks, links_of}
use Rattle.run_settling.proofs.Settling.{runs_settle}
use Rattle.fabric.specs.Links.{no_link_stirs}
use Rattle.fabric.specs.Remains.{IsLaidOut}
use Rattle.fabric.specs.Run.{IsReachedBy, Layout}
use Rattle.fabric.proofs.Methods.Runs.{reached-run, whole-of}
use Rattle.fabric.proofs.Trunks.Resting.{rests-all}

-- a trunk's link that rests does so by its sides
by-sides : (shape : Shape) (P : List Step) (trunks : RunTrunks) → IsBoundedTrunkRun shape P trunks
    → (l : LinkNo) → IsLinkOf shape l → Rests P l (trunks l.0)
    → IsResting P l (links_of trunks l.0 First) (links_of trunks l.0 Second)
by-sides shape P trunks run l of_shape (Rests.cut is first second) = IsResting.cut is first second
by-sides shape P trunks run l of_shape (Rests.quiet is still) =
    IsResting.quiet is (runs_settle.joined shape P trunks run l of_shape still)

pub over-rests : (f : Layout) → IsLaidOut (length f.log.names.nodes) f.shape
    → length f.log.steps ≤ 200000 → IsReachedBy f
    → no_link_stirs f.shape f.log.steps (trunks_of f.trunks) ≡ true
    → AllResting f.shape f.log.steps (links_of (trunks_of f.trunks))
over-rests f laid few reached still =
    let trunks : RunTrunks = trunks_of f.trunks in
    let run : IsBoundedTrunkRun f.shape f.log.steps trunks =
    whole-of (length f.log.names.nodes) f.shape laid f.log.steps trunks few
    (reached-run (length f.log.names.nodes) f.shape f.log.steps trunks reached) in
    λ l of_shape. by-sides f.shape f.log.steps trunks run l of_shape
    (rests-all f.shape f.log.steps trunks still l of_shape)
