-- A packet that comes, with all that its node answers, leaves less to do.
use Rattle.std.proofs.Common.{◌≡◌, ◌+◌, ◌<◌, ◌≤◌, ℕ, false, List, [], Some, refl, sym, ◌∙◌, ap}
use Rattle.std.proofs.Common.{arith, subst, IsSome, length, slice_get}
use Rattle.linx_base.specs.Sides.{other_of}
use Rattle.linx_base.specs.declared.frame.Message.{Message}
use Rattle.linx_base.specs.declared.identity.Inc.{Inc}
use Rattle.linx_base.specs.declared.identity.LinkNo.{LinkNo}
use Rattle.linx_base.specs.declared.identity.Side.{Side}
use Rattle.linx_base.specs.declared.identity.Side.TheVariants.{First, Second}
use Rattle.journal.specs.Living.{holder_of}
use Rattle.journal.specs.declared.effect.Effect.{Effect}
use Rattle.journal.specs.declared.effect.Step.{Step}
use Rattle.ethcm_end.specs.States.{peer_of}
use Rattle.carrier.specs.Events.{LinkState, flight_from, handed_by, near_handed}
use Rattle.carrier.specs.Events as links
use Rattle.carrier.specs.Laws.{TellsRightly}
use Rattle.carrier.specs.declared.handed.Handed.{Handed}
use Rattle.carrier.specs.declared.handed.Handed.TheVariants as handed
use Rattle.carrier.proofs.Links as link_events
use Rattle.link_settling.specs.Measure.{Falls}
use Rattle.link_settling.proofs.Flights.PacketsEnd.{deliveries_end, turned_measure}
use Rattle.rlnh_end.specs.Calls.{begin_of, query_of, with_words}
use Rattle.rlnh_end.specs.Hearing.{hears}
use Rattle.rlnh_end.specs.declared.heard.Heard.{Heard}
use Rattle.rlnh_end.specs.declared.up.Up.{Up}
use Rattle.rlnh_end.specs.declared.up.Up.TheVariants as ups
use Rattle.trunk.specs.declared.up.TrunkUp.{TrunkUp}
use Rattle.trunk.specs.declared.up.TrunkUp.TheVariants.{Asked}
use Rattle.trunk.specs.Events.{IsReading, TrunkState, delivered, near_delivered, near_offers}
use Rattle.trunk.specs.Events.{near_took}
use Rattle.trunk.specs.Events.{seen_from, side_of, told_by, told_of, told_up, turned, with_link}
use Rattle.trunk.specs.Keeping.{KeepsTrunk, messages_of}
use Rattle.trunk.specs.Laws.{IsOffered, MayPublish}
use Rattle.trunk.proofs.EachEvent.BothSides.{events_keep, near_tells, turned_keeps}
use Rattle.trunk.proofs.EachEvent.Trunks.{agree, offers}
use Rattle.trunk_moves.specs.Grants.{AreNames, GrantsAnswer}
use Rattle.trunk_moves.specs.Packets.{Comes, answered, names_hunted}
use Rattle.run_settling.specs.Asking.{asks}
use Rattle.run_settling.proofs.Adding.{AsksNothing, ConnectsNothing, IsSilent, NoneAsks}
use Rattle.run_settling.proofs.Adding.{NoneConnects, asking_spreads, asks_chain, connecting_spreads}
use Rattle.run_settling.proofs.Adding.{connects_chain, left, less_connecting, less_due}
use Rattle.run_settling.proofs.Adding.{publishes_silent}
use Rattle.run_settling.proofs.Coming.{answer_offers}
use Rattle.run_settling.proofs.Offering.{over_asks, over_publishes, over_says}
use Rattle.run_settling.proofs.Replying.{Replies, replied, replies, silent}
use Rattle.run_settling.proofs.Settled.{IsAny, all_any}

seen_left : (at : Side) (t : TrunkState) → left (seen_from at t).link ≡ left t.link
seen_left First t = refl
seen_left Second t = turned_measure asks t.link

module _ (P : List Step) (n : ℕ) (l : LinkNo) (at : Side) where
  -- what a node answers to what it is told of a message
  node_asks : (up : Up) (t : TrunkState) → KeepsTrunk t
      → ((name : List ℕ) → told_up up ≡ Asked name → (i : Inc) → holder_of P n name ≡ Some i
      → MayPublish (side_of at t) i name)
      → AsksNothing t.link (answered P n l at (told_up up) t).link
  node_asks (ups.Asked name) t kt may =
      over_publishes IsSilent AsksNothing asking_spreads at name (holder_of P n name)
      (λ s i. publishes_silent s i name) t kt (may name refl)
  node_asks _ t kt may = asking_spreads.same t.link

  -- a packet comes to the first side of a trunk that is seen from this side
  module _ (heard : Heard) (t : TrunkState) (kt : KeepsTrunk t)
      (some : 0 < length t.link.back) where
    abbrev came : LinkState
    came = links.near_delivered t.link 0 false

    abbrev took : Handed → TrunkState
    took told = near_took (with_link t came) heard told

    abbrev told_here : Handed → TrunkUp
    told_here told = told_of t.first.end.tables heard told

    abbrev last : Handed → TrunkState
    last told = answered P n l at (told_here told) (seen_from at (took told))

    falls : Falls (left came) (left t.link)
    falls = (deliveries_end asks).falls Second 0 t.link kt.link some

    less_replies : (m : Message) → (left came).due + asks m ≤ (left t.link).due
        → Falls (left came) (left t.link) → Replies m (hears t.first.end.tables heard)
        → IsSome (peer_of came.first.end) → IsOffered (hears t.first.end.tables heard).made 1
        → KeepsTrunk (seen_from at (took (handed.Got m)))
        → ((name : List ℕ) → told_here (handed.Got m) ≡ Asked name → (i : Inc)
        → holder_of P n name ≡ Some i
        → MayPublish (side_of at (seen_from at (took (handed.Got m)))) i name)
        → Falls (left (last (handed.Got m)).link) (left t.link)
    less_replies m brought falls (replied one none) up reply keeps may =
        let made = (hears t.first.end.tables heard).made in
        let said : AsksNothing came (took (handed.Got m)).link =
        over_says IsSilent AsksNothing asking_spreads First made t.first.end.out came
        (agree First t kt).out up reply.messages none
        (link_events.events_keep.delivered Second 0 false t.link kt.link) in
        let node = node_asks (hears t.first.end.tables heard).up
        (seen_from at (took (handed.Got m))) keeps may in
        let all : AsksNothing came (last (handed.Got m)).link =
        asks_chain (left came) (left (took (handed.Got m)).link)
        (left (last (handed.Got m)).link) said
        (subst (λ x. NoneAsks x (left (last (handed.Got m)).link))
        (seen_left at (took (handed.Got m))) node) in
        less_due (left t.link) (left came) (left (last (handed.Got m)).link) falls (omega arith) all
    less_replies m brought falls (silent none node) up reply keeps may =
        let made = (hears t.first.end.tables heard).made in
        let words : with_words t.first.end.out made.says ≡ [] =
        ap (λ ws. with_words t.first.end.out ws) none ∙ (agree First t kt).out in
        let same : left (last (handed.Got m)).link ≡ left came =
        ap (λ (u : TrunkState). left u.link) (node P n l at (seen_from at (took (handed.Got m))))
        ∙ seen_left at (took (handed.Got m)) ∙ ap (λ ms. left (near_offers came ms)) words in
        subst (λ x. Falls x (left t.link)) (sym same) falls

    less_told : (told : Handed) → near_handed t.link (slice_get t.link.back 0) ≡ told
        → TellsRightly t.link.first came.first t.link.second told → IsReading told heard
        → ((m : Message) → told ≡ handed.Got m
        → IsOffered (hears t.first.end.tables heard).made 1)
        → KeepsTrunk (seen_from at (took told)) → AreNames (names_hunted P n l)
        → ((name : List ℕ) → told_here told ≡ Asked name → (i : Inc)
        → holder_of P n name ≡ Some i
        → MayPublish (side_of at (seen_from at (took told))) i name)
        → Falls (left (last told).link) (left t.link)
    less_told handed.Nothing is tells read reply keeps named may =
        subst (λ x. Falls x (left t.link)) (sym (seen_left at (took handed.Nothing))) falls
    less_told (handed.WentUp session peer) is tells read reply keeps named may =
        let told : Handed = handed.WentUp session peer in
        let said : ConnectsNothing came (took told).link =
        over_says IsAny ConnectsNothing connecting_spreads First begin_of t.first.end.out came
        (agree First t kt).out (subst (λ p. IsSome p) (sym tells.0.up) refl)
        (offers First t kt).begun.messages (all_any (messages_of begin_of.says))
        (link_events.events_keep.delivered Second 0 false t.link kt.link) in
        let node = over_asks IsAny ConnectsNothing connecting_spreads at (names_hunted P n l) named
        (λ s name. all_any (messages_of (query_of s name).says)) (seen_from at (took told)) keeps in
        less_connecting (left t.link) (left came) (left (last told).link)
        ((deliveries_end asks).goes_up Second 0 session peer t.link kt.link is)
        (connects_chain (left came) (left (took told).link) (left (last told).link) said
        (subst (λ x. NoneConnects x (left (last told).link)) (seen_left at (took told)) node))
    less_told (handed.WentDown session) is tells read reply keeps named may =
        subst (λ x. Falls x (left t.link)) (sym (seen_left at (took (handed.WentDown session))))
        falls
    less_told (handed.Got m) is tells read reply keeps named may =
        less_replies m ((deliveries_end asks).handed Second 0 m t.link kt.link some is) falls
        (replies m t.first.end.tables heard read)
        (subst (λ p. IsSome p) (sym (tells.stays.peer ∙ tells.paired.1)) refl) (reply m refl)
        keeps may

    near_less : IsReading (near_handed t.link (slice_get t.link.back 0)) heard
        → KeepsTrunk (seen_from at (near_delivered t 0 false heard)) → AreNames (names_hunted P n l)
        → ((name : List ℕ)
        → told_here (near_handed t.link (slice_get t.link.back 0)) ≡ Asked name → (i : Inc)
        → holder_of P n name ≡ Some i
        → MayPublish (side_of at (seen_from at (near_delivered t 0 false heard))) i name)
        → Falls (left (last (near_handed t.link (slice_get t.link.back 0))).link) (left t.link)
    near_less read keeps named may =
        less_told (near_handed t.link (slice_get t.link.back 0)) refl
        (near_tells t.link kt.link 0 false) read (answer_offers heard t kt read) keeps named may

module _ (P : List Step) (n : ℕ) (l : LinkNo) where
  -- a packet to either side
  less_delivered : (from : Side) (heard : Heard) (t : TrunkState) → KeepsTrunk t
      → 0 < length (flight_from from t.link) → IsReading (handed_by from 0 t.link) heard
      → AreNames (names_hunted P n l)
      → ((name : List ℕ) → told_by from 0 heard t ≡ Asked name → (i : Inc)
      → holder_of P n name ≡ Some i
      → MayPublish (side_of (other_of from) (delivered from 0 false heard t)) i name)
      → Falls
      (left (answered P n l (other_of from) (told_by from 0 heard t)
      (delivered from 0 false heard t)).link) (left t.link)
  less_delivered First heard t kt some read named may =
      subst (λ x. Falls
      (left (answered P n l Second (told_by First 0 heard t)
      (delivered First 0 false heard t)).link) x) (turned_measure asks t.link)
      (near_less P n l Second heard (turned t) (turned_keeps t kt) some read
      (events_keep.delivered First 0 false heard t read kt) named may)
  less_delivered Second heard t kt some read named may =
      near_less P n l First heard t kt some read
      (events_keep.delivered Second 0 false heard t read kt) named may

  pub comes_less : (from : Side) (es : List Effect) (t u : TrunkState) → KeepsTrunk t
      → 0 < length (flight_from from t.link) → AreNames (names_hunted P n l)
      → GrantsAnswer P n from t → Comes P n l from false es t u
      → Falls (left u.link) (left t.link)
  comes_less from es t u kt some named grants comes =
      subst (λ (x : TrunkState). Falls (left x.link) (left t.link)) (sym comes.makes)
      (less_delivered from comes.heard t kt some comes.reading named
      (grants.answers false comes.heard comes.reading))
