use Rattle.keyed_list.proofs.Finding.{alone}
use Rattle.link_tables.proofs.Flows.{under-flow}
use Rattle.link_tables.proofs.sent.own_key.Goals as goal

pub returns : goal.returns
returns c = λ f. alone (under-flow c.args.flow f)
