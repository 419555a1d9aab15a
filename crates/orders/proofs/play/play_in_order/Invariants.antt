use Rattle.std.proofs.Common.{◌≡◌, ◌≤◌, ◌-◌, ℕ, drop, length}
use Rattle.orders.specs.Runs.{AreNextTurns, first_standing, standing}
use Rattle.orders.proofs.play.play_in_order.Given as goal

-- so many turns were made
abbrev pub invariant-turns : goal.invariant-turns
invariant-turns l = record {
  turns : (n : ℕ) × AreNextTurns l.initial.stage.script n
      (first_standing l.initial.stage.script (record { left = l.front; rule = l.initial.rule }))
      (standing (drop l.place l.front) l.rule l.stage.run);
  within : l.place ≤ length l.front;
  script : l.stage.script ≡ l.initial.stage.script;
}

abbrev pub decreases-turns : goal.decreases-turns
decreases-turns l = 200001 - length l.stage.run.log.steps
