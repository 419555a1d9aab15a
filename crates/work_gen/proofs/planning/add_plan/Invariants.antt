use Rattle.std.proofs.Common.{◌≡◌, ◌-◌, ◌<◌, true, length, take}
use Rattle.script_lang.specs.Parts.{planned_verdicts, with_verdicts}
use Rattle.script_lang.specs.Fits.{is_link}
use Rattle.work_gen.specs.Generated.{plan_of}
use Rattle.work_gen.proofs.planning.add_plan.Given as goal

-- the verdicts so far are planned
abbrev pub invariant-loop-done : goal.invariant-loop-done
invariant-loop-done l = record {
  is :
      l.script
      ≡ with_verdicts l.initial.script (record { 0 = l.k }) l.from
      (take l.done (plan_of l.n l.k l.from));
  link : is_link l.script (record { 0 = l.k }) ≡ true;
  place : l.k - 1 < length l.script.plans;
  room : length (planned_verdicts l.script (record { 0 = l.k }) l.from) ≡ l.done;
}
