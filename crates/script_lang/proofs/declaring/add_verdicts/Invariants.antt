use Rattle.std.proofs.Common.{◌≡◌, ◌+◌, ◌-◌, ◌<◌, true, length, take}
use Rattle.script_lang.specs.Parts.{planned_verdicts, with_verdicts}
use Rattle.script_lang.specs.Fits.{is_link}
use Rattle.script_lang.proofs.declaring.add_verdicts.Given as goal

-- the verdicts so far stand behind those of the plan
abbrev pub invariant-loop-verdict : goal.invariant-loop-verdict
invariant-loop-verdict l = record {
  is : l.script ≡ with_verdicts l.initial.script l.link l.from (take l.verdict-index l.verdicts);
  link : is_link l.script l.link ≡ true;
  place : l.link.0 - 1 < length l.script.plans;
  room :
      length (planned_verdicts l.script l.link l.from)
      ≡ length (planned_verdicts l.initial.script l.link l.from) + l.verdict-index;
}
