use Rattle.std.proofs.Common.{◌∙◌, ◌++◌, ◌∷◌, [], ap, arith, map, refl, sym, take_all}
use Rattle.journal.specs.declared.effect.Effect.TheVariants.{Closed}
use Rattle.node_kernel.specs.Nodes.{OpenEndpoint}
use Rattle.node_kernel.proofs.Bringing.{map_both}
use Rattle.node_kernel.proofs.Gathering.{map-take_more}
use Rattle.node_kernel.proofs.rules.closings.Goals as goal

pub loop-endpoint-preserved : goal.loop-endpoint-preserved
loop-endpoint-preserved c =
    c.in_ok-push.ensures.ok
    ∙ (λ i. c.loop-endpoint.invariant i ++ Closed (c.inc.ensures i) ∷ [])
    ∙ sym (map-take_more (λ (e : OpenEndpoint). Closed e.inc) c.endpoints-endpoints.result.now
    c.loop-endpoint.endpoint-index c.endpoint-item.result c.loop-endpoint-test.true
    c.endpoint-item.is)

pub returns : goal.returns
returns c =
    c.loop-endpoint.invariant
    ∙ ap (map (λ (e : OpenEndpoint). Closed e.inc))
    (take_all c.loop-endpoint.endpoint-index c.endpoints-endpoints.result.now (omega arith)
    ∙ c.endpoints-endpoints.ensures)
    ∙ sym (map_both Closed (λ (e : OpenEndpoint). e.inc) (λ (e : OpenEndpoint). Closed e.inc)
    (λ e. refl) c.args.roster.now.endpoints)
