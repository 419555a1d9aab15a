use Rattle.std.proofs.Common.{◌≡◌, List, Option, ap, sym, subst, ◌∙◌}
use Rattle.std.specs.Option.{option_copied}
use Rattle.std.proofs.lemmas.Result.{on_ok_weaker}
use Rattle.linx_base.specs.declared.identity.Peer.{Peer}
use Rattle.chart.specs.declared.flight.Flight.{Flight}
use Rattle.chart.specs.declared.flight.Pairing.{Pairing}
use Rattle.chart.specs.Carried.{OverLinks, arrived, landed, pairing_in, place_in}
use Rattle.chart.proofs.OneMore.{arrives}
use Rattle.chart.proofs.carried.Carried.arrive.Goals as goal

pub returns-in-There : goal.returns-in-There
returns-in-There c = λ S known.
    let pairing : Option Pairing = option_copied c.pairing_in-pairing.result in
    let flights : c.deref-in-There.result.now ≡ c.args.self.now.flights =
    c.deref-in-There.ensures.value ∙ ap (λ (o : OverLinks). o.flights) c.self.view_is in
    let pairings : c.deref.result.now ≡ c.args.self.now.pairings =
    c.deref.ensures.value ∙ ap (λ (o : OverLinks). o.pairings) c.self.view_is in
    on_ok_weaker c.land.result
    (λ (now : c.land.new.self ≡ landed c.args.line c.place_in-place.result c.args.self.now). subst (λ (peer : Peer). c.land.new.self ≡ arrived S c.args.line c.args.to peer c.args.self.now)
    (sym c.in-There.is)
    (arrives S c.args.line c.args.to c.in-There.inc c.in-There.link c.in-There.session c.node.result
    c.opener-by.result pairing c.place_in-place.result c.args.self.now c.land.new.self
    (c.place_in-place.ensures.place
    ∙ ap (λ (l : List Flight). place_in l c.opener-by.result pairing c.args.to) flights)
    (c.opener-by.ensures S known)
    (c.pairing_in-pairing.ensures
    ∙ ap (λ (l : List Pairing). pairing_in l c.node.result c.in-There.link c.in-There.session)
    pairings)
    c.node.ensures now))
    c.land.ensures
