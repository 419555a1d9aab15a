use Rattle.std.proofs.Common.{◌-◌, slice_set}
use Rattle.node_kernel.specs.Answers.{refused}
use Rattle.node_kernel.specs.declared.answers.StepAnswer.TheVariants as answers
use Rattle.fabric.specs.declared.fabric.Fabric.TheView.{view}
use Rattle.fabric.proofs.Standings.KernelAndStanding.{acting-home, sees}
use Rattle.fabric.proofs.Methods.QuietSteps.{made-refuse}
use Rattle.fabric.proofs.Methods.FieldsOfFabric.{IsMadeSeen, made-still, parts_of}
use Rattle.fabric.proofs.fabric.Fabric.note_refusal.Goals as goal
use Rattle.fabric.proofs.fabric.Fabric.note_refusal.Goals.{After-wait}

-- what it makes
made : (c : After-wait) → IsMadeSeen (view c.self.inside) c.args.self.now
    c.make_quiet.new.journal.log c.self.inside.trunks (record (parts_of c.self.inside) {
      standings = slice_set c.self.inside.standings.items (c.args.actor - 1) c.wait.new.self;
    }) c.args.actor (refused c.args.reason) (answers.Refused c.args.reason)
made c =
    let acts = acting-home (sees c.self.invariant.0 c.self.view_is) c.args.actor c.requires.maker
    c.requires.room c.requires.short in
    made-still c.self.inside c.self.view_is c.self.invariant.1 c.make_quiet.new.journal.log _
    c.args.actor (refused c.args.reason) (answers.Refused c.args.reason)
    (made-refuse acts c.args.reason c.index_mut.result.now c.wait.new.self c.index_mut.ensures.value
    c.wait.ensures c.make_quiet.new.journal.log c.in-Ok.ensures.log)

pub invariant_of-self : goal.invariant_of-self
invariant_of-self c = (made (goal.at.invariant_of-self c).After-wait).keeps

pub returns-in-Ok-clause-ok : goal.returns-in-Ok-clause-ok
returns-in-Ok-clause-ok c = (made (goal.at.returns-in-Ok-clause-ok c).After-wait).makes
