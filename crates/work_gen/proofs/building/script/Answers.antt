use Rattle.std.proofs.Common.{◌∙◌}
use Rattle.work_gen.proofs.Nodes.{nothing_built}
use Rattle.work_gen.proofs.Losses.{generated_apart}
use Rattle.work_gen.proofs.building.script.Goals as goal

pub add_nodes-requires : goal.add_nodes-requires
add_nodes-requires c = c.new-script.ensures ∙ nothing_built c.args.n

pub returns-clause-loses_apart : goal.returns-clause-loses_apart
returns-clause-loses_apart c = rw c.in_ok-add_actors.ensures (generated_apart c.args.n)
