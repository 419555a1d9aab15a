-- That what an event speaks of is there, where a maker asks for it.
use Rattle.std.specs.Prelude.{ℕ, ◌≡◌, ◌≤◌, ◌<◌, true, List, length}
use Rattle.linx_base.specs.Content.{data_limit}
use Rattle.linx_base.specs.Verdicts.{fits_verdict}
use Rattle.linx_base.specs.declared.frame.Verdict.{Verdict}
use Rattle.linx_base.specs.declared.identity.LinkNo.{LinkNo}
use Rattle.linx_base.specs.declared.identity.Side.{Side}
use Rattle.linx_base.specs.declared.name.Path.{Path}
use Rattle.linx_base.specs.declared.name.Path.TheVariants.{Over}
use Rattle.linx_base.specs.SigNotes.{SigNote}
use Rattle.carrier.specs.Events.{flight_from}
use Rattle.journal.specs.Shapes.{Shape}
use Rattle.journal.specs.declared.effect.Step.{Step}
use Rattle.journal.specs.declared.event.Event.{Event}
use Rattle.journal.specs.declared.event.Event.TheVariants as asks
use Rattle.link_laws.specs.Ends.{IsLinkOf, node_at}
use Rattle.link_laws.specs.Sessions.{LosesIfCut}
use Rattle.trunk_moves.specs.Trunks.{RunTrunks}

-- a link of the shape has a side on the node
pub record HasSideOn (shape : Shape) (node : ℕ) (l : LinkNo) : Type 0 where
  pub of_shape : IsLinkOf shape l
  pub at : Side
  pub node_is : node_at shape l at ≡ node

-- a path over a link leaves by a side on the node
abbrev pub LeavesBy : Shape → ℕ → Path → Type 0
LeavesBy shape node (Over l name) = HasSideOn shape node l
LeavesBy shape node _ = Unit {0}

-- a packet may meet this verdict: one is in flight, while the link is cut it is lost, and the
-- verdict can stand
pub record MayMeetIn (shape : Shape) (P : List Step) (trunks : RunTrunks) (l : LinkNo) (from : Side)
    (verdict : Verdict) : Type 0 where
  pub of_shape : IsLinkOf shape l
  pub flies : 0 < length (flight_from from (trunks l.0).link)
  pub lost : LosesIfCut P l verdict
  pub fits : fits_verdict verdict ≡ true

-- WHAT AN EVENT SPEAKS OF IS THERE, on so many nodes, after these steps, where it is of a maker on
-- this node
abbrev pub FitsRun : ℕ → Shape → List Step → RunTrunks → ℕ → Event → SigNote → Type 0
FitsRun nodes shape P trunks node (asks.Hunt path) note = LeavesBy shape node path
FitsRun nodes shape P trunks node (asks.Attach q) note = length note.bytes < data_limit
FitsRun nodes shape P trunks node (asks.Cut l) note = IsLinkOf shape l
FitsRun nodes shape P trunks node (asks.Mend l) note = IsLinkOf shape l
FitsRun nodes shape P trunks node (asks.Settle l) note = IsLinkOf shape l
FitsRun nodes shape P trunks node (asks.Restart n) note = (0 < n.0) × (n.0 ≤ nodes)
FitsRun nodes shape P trunks node (asks.Wire l from verdict) note =
    MayMeetIn shape P trunks l from verdict
FitsRun nodes shape P trunks node (asks.Tick l side) note = IsLinkOf shape l
FitsRun nodes shape P trunks node _ note = Unit {0}
