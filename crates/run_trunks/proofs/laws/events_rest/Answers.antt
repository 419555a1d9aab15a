use Rattle.run_trunks.proofs.Rested.{at-rest-grown, changes-there, keeps-all, rests-changed}
use Rattle.run_trunks.proofs.laws.events_rest.Goals as goal

pub returns : goal.returns
returns c = record {
  grown = at-rest-grown;
  rests = rests-changed;
  changes = changes-there;
  keeps = keeps-all;
}
