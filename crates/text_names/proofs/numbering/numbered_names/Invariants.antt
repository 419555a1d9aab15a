use Rattle.std.proofs.Common.{◌≡◌}
use Rattle.text_names.specs.Numbering.{names_up_to}
use Rattle.text_names.proofs.numbering.numbered_names.Given as goal

-- the numbers so far have their names
abbrev pub invariant-loop-number : goal.invariant-loop-number
invariant-loop-number l = record {
  names : l.names ≡ (names_up_to l.number l.told l.others).0;
  rest : l.rest ≡ (names_up_to l.number l.told l.others).1;
}
