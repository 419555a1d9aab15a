use Rattle.std.proofs.Common.{◌≡◌, ◌≤◌, length}
use Rattle.orders.specs.Makers.{ready_among}
use Rattle.orders.proofs.play.ready_of.Given as goal

abbrev pub invariant-loop-place : goal.invariant-loop-place
invariant-loop-place l = record {
  ready : l.some.items ≡ ready_among l.stage.script l.stage.run l.place;
  few : length l.some.items ≤ l.place;
}
