use Rattle.std.proofs.Common.{sym, ap, subst}
use Rattle.journal.specs.Shapes.{Shape}
use Rattle.link_laws.specs.Laws.{IsLegal}
use Rattle.fabric.specs.Actings.{asking}
use Rattle.fabric.specs.Run.{Layout}
use Rattle.linx_api.proofs.Answering.{fabric-answers}
use Rattle.linx_api.proofs.shared_fabric.SharedFabric.step.Goals as goal

pub returns-clause-answered : goal.returns-clause-answered
returns-clause-answered c =
    let x = c.self.inside.fabric in
    let y = c.step-answer.new.self in
    let stays = ap (λ (l : Layout). l.shape) c.step-answer.ensures.fixed in
    let legal = subst (λ (s : Shape). IsLegal s y.log.steps) stays c.journal-2.ensures.legal in
    rw (sym c.self.view_is)
    (fabric-answers x y (asking c.args.event c.args.hand) c.args.by c.step-answer.result
    c.requires.asked.may c.step-answer.ensures.ok c.step-answer.ensures.full
    c.step-answer.ensures.full_only c.step-answer.ensures.err legal)

pub returns-clause-found : goal.returns-clause-found
returns-clause-found c = rw (sym c.self.view_is) (record {
  legal = c.journal.ensures.legal;
  promises = c.journal.ensures.promises;
  reached = c.journal.ensures.reached;
})

pub returns-clause-left : goal.returns-clause-left
returns-clause-left c = record {
  legal = c.journal-2.ensures.legal;
  promises = c.journal-2.ensures.promises;
  reached = c.journal-2.ensures.reached;
}
