use Rattle.std.proofs.Common.{◌≡◌, true}
use Rattle.run_trunks.specs.States.{trunks_of}
use Rattle.fabric.specs.Links.{none_stirs}
use Rattle.fabric.proofs.fabric.Fabric.no_link_stirs.Given as goal

-- none of the links so far stirs
abbrev pub invariant-loop-place : goal.invariant-loop-place
invariant-loop-place l = none_stirs l.self.log.steps (trunks_of l.self.trunks) l.place ≡ true
