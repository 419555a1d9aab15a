-- What spreads as a side of a trunk says something: what holds between a link and itself, from one
-- link to the next, and between a link and the same one with a message offered.
use Rattle.std.proofs.Common.{◌≡◌, ℕ, Bool, true, false, List, [], ◌∷◌, ◌++◌, Option, Some, None}
use Rattle.std.proofs.Common.{refl, sym, ◌∙◌, ap, subst, IsSome, if◌then◌else◌, is_some}
use Rattle.std.specs.List.{AllByRecursion}
use Rattle.linx_base.specs.Frames.{IsMessage}
use Rattle.linx_base.specs.declared.frame.Message.{Message}
use Rattle.linx_base.specs.declared.identity.Inc.{Inc}
use Rattle.linx_base.specs.declared.identity.Side.{Side}
use Rattle.linx_base.specs.declared.identity.Side.TheVariants.{First, Second}
use Rattle.ethcm_end.specs.States.{peer_of}
use Rattle.carrier.specs.Events.{LinkState, half_of, near_offered, offered_to, seen_from}
use Rattle.carrier.specs.Events as links
use Rattle.carrier.specs.Keeping.{KeepsLink}
use Rattle.carrier.proofs.Delivering as carried
use Rattle.carrier.proofs.Links as link_events
use Rattle.rlnh_end.specs.Calls.{Saying, publish_of, query_of, with_words}
use Rattle.rlnh_end.specs.States.{RlnhTables}
use Rattle.trunk.specs.Events.{TrunkState, asked_at, near_offers, near_said, near_says, said_at}
use Rattle.trunk.specs.Events.{side_of, tables_of, turned}
use Rattle.trunk.specs.Keeping.{KeepsTrunk, messages_of}
use Rattle.trunk.specs.Laws.{MayPublish}
use Rattle.trunk.proofs.EachEvent.BothSides.{events_keep, turned_keeps}
use Rattle.trunk.proofs.Messages.Offers.{out_words}
use Rattle.trunk.proofs.EachEvent.Trunks.{agree, offers}
use Rattle.trunk_moves.specs.Grants.{AreNames}
use Rattle.trunk_moves.specs.Packets.{asks_for, publishes_if}

-- messages of which Q holds
pub record Spreads (Q : Message → Type 0) (R : LinkState → LinkState → Type 0) : Type 0 where
  pub same : (v : LinkState) → R v v
  pub chains : (v w x : LinkState) → R v w → R w x → R v x
  pub offered :
      (to : Side) (m : Message) (v : LinkState) → IsSome (peer_of (half_of to v).end)
      → IsMessage m → Q m → KeepsLink v → R v (offered_to to m v)

module _ (Q : Message → Type 0) (R : LinkState → LinkState → Type 0) (spreads : Spreads Q R) where
  -- ---- messages are offered to the first side of a link that is seen from this side

  over_offer : (at : Side) (m : Message) (v : LinkState) → IsSome (peer_of v.first.end)
      → IsMessage m → Q m → KeepsLink v → R (seen_from at v) (seen_from at (near_offered v m))
  over_offer First m v up is q k = spreads.offered First m v up is q k
  over_offer Second m v up is q k =
      spreads.offered Second m (links.turned v) up is q (link_events.seen_keeps Second v k)

  over_offers : (at : Side) (ms : List Message) (v : LinkState) → IsSome (peer_of v.first.end)
      → AllByRecursion IsMessage ms → AllByRecursion Q ms → KeepsLink v
      → R (seen_from at v) (seen_from at (near_offers v ms))
  over_offers at [] v up all qs k = spreads.same (seen_from at v)
  over_offers at (m ∷ ms) v up all qs k =
      let o = carried.events_tell.offer First m v up all.0 k in
      spreads.chains (seen_from at v) (seen_from at (near_offered v m))
      (seen_from at (near_offers (near_offered v m) ms)) (over_offer at m v up all.0 qs.0 k)
      (over_offers at ms (near_offered v m) (subst (λ p. IsSome p) (sym o.stays.peer) up) all.1 qs.1
      (link_events.events_keep.offered First m v up all.0 k))

  -- an RLNH end that had nothing to say says this
  pub over_says : (at : Side) (made : Saying) (out : List Message) (v : LinkState) → out ≡ []
      → IsSome (peer_of v.first.end) → AllByRecursion IsMessage (messages_of made.says)
      → AllByRecursion Q (messages_of made.says) → KeepsLink v
      → R (seen_from at v) (seen_from at (near_offers v (with_words out made.says)))
  over_says at made out v none up all qs k =
      subst (λ ms. R (seen_from at v) (seen_from at (near_offers v ms)))
      (sym (out_words out made.says ∙ ap (λ ms. ms ++ messages_of made.says) none))
      (over_offers at (messages_of made.says) v up all qs k)

  -- ---- a call at a side

  over_said : (at : Side) (made : Saying) (t : TrunkState) → KeepsTrunk t
      → AllByRecursion IsMessage (messages_of made.says)
      → AllByRecursion Q (messages_of made.says)
      → R (seen_from at t.link) (seen_from at (near_said t made).link)
  over_said at made t kt all qs = by_peer (is_some (peer_of t.link.first.end)) refl
    where
      by_peer : (b : Bool) → is_some (peer_of t.link.first.end) ≡ b
          → R (seen_from at t.link) (seen_from at (if b then near_says t made else t).link)
      by_peer true up =
          over_says at made t.first.end.out t.link (agree First t kt).out up all qs kt.link
      by_peer false down = spreads.same (seen_from at t.link)

  over_call : (at : Side) (call : RlnhTables → Saying) (t : TrunkState) → KeepsTrunk t
      → AllByRecursion IsMessage (messages_of (call (tables_of at t)).says)
      → AllByRecursion Q (messages_of (call (tables_of at t)).says)
      → R t.link (said_at at call t).link
  over_call First call t kt all qs = over_said First (call (tables_of First t)) t kt all qs
  over_call Second call t kt all qs =
      over_said Second (call (tables_of Second t)) (turned t) (turned_keeps t kt) all qs

  -- names are asked for
  pub over_asks : (at : Side) (names : List (List ℕ)) → AreNames names
      → ((s : RlnhTables) (name : List ℕ) → AllByRecursion Q (messages_of (query_of s name).says))
      → (t : TrunkState) → KeepsTrunk t → R t.link (asks_for at names t).link
  over_asks at [] named queries t kt = spreads.same t.link
  over_asks at (v ∷ names) named queries t kt =
      spreads.chains t.link (asked_at at v t).link (asks_for at names (asked_at at v t)).link
      (over_call at (λ s. query_of s v) t kt ((offers at t kt).asked v named.0).messages
      (queries (tables_of at t) v))
      (over_asks at names named.1 queries (asked_at at v t) (events_keep.asked at v t named.0 kt))

  -- and published
  pub over_publishes : (at : Side) (name : List ℕ) (holder : Option Inc)
      → ((s : RlnhTables) (i : Inc)
      → AllByRecursion Q (messages_of (publish_of s i name).says))
      → (t : TrunkState) → KeepsTrunk t
      → ((i : Inc) → holder ≡ Some i → MayPublish (side_of at t) i name)
      → R t.link (publishes_if at name holder t).link
  over_publishes at name None publishes t kt may = spreads.same t.link
  over_publishes at name (Some i) publishes t kt may =
      over_call at (λ s. publish_of s i name) t kt
      ((offers at t kt).published i name (may i refl)).messages
      (publishes (tables_of at t) i)
