use Rattle.std.proofs.Common.{◌∙◌, length-set}
use Rattle.run_trunks.proofs.Lists.{length-each}
use Rattle.run_trunks.proofs.Numbered.{all-do, all-new, one-changes}
use Rattle.run_trunks.proofs.laws.changes_are_of_runs.Goals as goal

pub returns : goal.returns
returns c = record {
  begins = all-new;
  all = all-do;
  one = one-changes;
  all_count = λ shape n act ts count. length-each _ shape.links ts ∙ count;
  one_count = λ shape l change ts count. length-set ts _ _ ∙ count;
}
