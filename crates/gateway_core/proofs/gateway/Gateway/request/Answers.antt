use Rattle.std.proofs.Common.{sym, subst, ap}
use Rattle.journal.specs.History.{endpoint_of}
use Rattle.fabric.specs.Run.{Layout}
use Rattle.gateway_core.specs.Handling.{GateState, IsClient, IsGateway, IsOwner}
use Rattle.gateway_core.proofs.Keeping.{some_where, with_request}
use Rattle.gateway_core.proofs.gateway.Gateway.request.Goals as goal

pub invariant_of-self : goal.invariant_of-self
invariant_of-self c =
    let own : IsOwner c.self.inside.fabric c.args.client = record {
      is_client = subst (λ (f : Layout). IsClient f c.args.client)
          (sym (ap (λ (g : GateState). g.layout) c.self.view_is)) c.requires;
      is_open = some_where (endpoint_of c.self.inside.fabric.log.steps c.args.client) _ _
          c.endpoint_of.ensures c.is_none.ensures c.if-is_none.false;
    } in
    subst (λ ts. IsGateway (record {
      layout = c.self.inside.fabric;
      timers = ts;
      clock = c.self.inside.clock;
      requested = c.in-Some.reference;
    })) (sym c.in-Ok.ensures.ok)
    (with_request _ c.args.client _ c.args.signal c.in-Some.reference c.self.invariant own
    c.in-Some.ensures.1)
