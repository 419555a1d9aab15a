use Rattle.std.proofs.Common.{length, sym, ap, ◌∙◌}
use Rattle.journal.specs.Shapes.{Shape}
use Rattle.gateway_core.specs.Handling.{GateState}
use Rattle.gateway_session.proofs.Asking.{asker}
use Rattle.gateway_session.proofs.Replying.{on_ok, on_err, anyway, replied, leaves, fills}
use Rattle.gateway_session.proofs.session.SessionServer.reply.Goals as goal

pub prepare-requires : goal.prepare-requires
prepare-requires c = (_, c.requires)

pub handle-requires-clause-asker : goal.handle-requires-clause-asker
handle-requires-clause-asker c =
    rw c.self.view_is
    (asker c.args.self.now.layout _ _ (c.in-Ok.ensures.spelled _ c.requires).asker)

pub handle-requires-clause-fits : goal.handle-requires-clause-fits
handle-requires-clause-fits c = (c.in-Ok.ensures.spelled _ c.requires).fits

pub invariant_of-self : goal.invariant_of-self
invariant_of-self c = (
  c.self.invariant.0 ∙ sym (ap (λ (s : Shape). length s.actors) c.handle.ensures.clients),
  c.self.invariant.1,
)

pub returns-in-Ok-clause-replied : goal.returns-in-Ok-clause-replied
returns-in-Ok-clause-replied c =
    let spells = c.in-Ok.ensures.spelled _ c.requires in
    let made = rw c.self.view_is at c.handle.ensures.replied in
    let clients = c.handle.ensures.clients ∙ ap (λ (g : GateState). g.layout.shape) c.self.view_is in
    on_ok c.handle.result made
    (replied c.args.self.now c.handle.new.gateway _ _ c.args.request.now spells clients
    c.args.out.now.items _ _ c.prepare.ensures.items)

pub returns-in-Ok-clause-left : goal.returns-in-Ok-clause-left
returns-in-Ok-clause-left c =
    let spells = c.in-Ok.ensures.spelled _ c.requires in
    let stopped = rw c.self.view_is at c.handle.ensures.stopped in
    let clients = c.handle.ensures.clients ∙ ap (λ (g : GateState). g.layout.shape) c.self.view_is in
    on_err c.handle.result stopped
    (leaves c.args.self.now c.handle.new.gateway _ _ c.args.request.now spells clients)

pub returns-in-Ok-clause-not_refused : goal.returns-in-Ok-clause-not_refused
returns-in-Ok-clause-not_refused c = anyway c.handle.result (λ none. none)

pub returns-in-Ok-clause-full : goal.returns-in-Ok-clause-full
returns-in-Ok-clause-full c =
    let spells = c.in-Ok.ensures.spelled _ c.requires in
    let stopped = rw c.self.view_is at c.handle.ensures.stopped in
    let clients = c.handle.ensures.clients ∙ ap (λ (g : GateState). g.layout.shape) c.self.view_is in
    fills c.args.self.now c.handle.new.gateway _ _ c.args.request.now spells clients
    c.handle.result stopped c.handle.ensures.full c.handle.ensures.full_at
