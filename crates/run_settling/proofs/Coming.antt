-- What holds of a link once nothing is in flight does so too after a packet came, with all that is
-- said to it.
use Rattle.std.proofs.Common.{◌≡◌, ℕ, false, List, ◌∷◌, Some, refl, sym, ◌∙◌, subst, IsSome}
use Rattle.std.proofs.Common.{slice_get}
use Rattle.linx_base.specs.Sides.{other_of}
use Rattle.linx_base.specs.declared.frame.Message.{Message}
use Rattle.linx_base.specs.declared.identity.Inc.{Inc}
use Rattle.linx_base.specs.declared.identity.LinkNo.{LinkNo}
use Rattle.linx_base.specs.declared.identity.Side.{Side}
use Rattle.linx_base.specs.declared.identity.Side.TheVariants.{First, Second}
use Rattle.journal.specs.Living.{holder_of}
use Rattle.journal.specs.declared.effect.Effect.{Effect}
use Rattle.journal.specs.declared.effect.Step.{Step}
use Rattle.carrier.specs.Events.{LinkState, handed_by, near_handed, seen_from}
use Rattle.carrier.specs.Events as links
use Rattle.carrier.specs.Keeping.{KeepsLink}
use Rattle.carrier.specs.Laws.{TellsRightly}
use Rattle.carrier.specs.declared.handed.Handed.{Handed}
use Rattle.carrier.specs.declared.handed.Handed.TheVariants as handed
use Rattle.carrier.proofs.Links as link_events
use Rattle.link_settling.specs.Runs.Move.{comes}
use Rattle.rlnh_end.specs.Calls.{begin_of, publish_of, query_of}
use Rattle.rlnh_end.specs.Hearing.{hears}
use Rattle.rlnh_end.specs.declared.heard.Heard.{Heard}
use Rattle.trunk.specs.declared.up.TrunkUp.{TrunkUp}
use Rattle.trunk.specs.declared.up.TrunkUp.TheVariants.{WentUp}
use Rattle.trunk.specs.declared.up.TrunkUp.TheVariants.{Asked}
use Rattle.trunk.specs.Events.{IsReading, TrunkState, delivered, near_delivered, near_took, side_of}
use Rattle.trunk.specs.Events.{told_by, turned, with_link}
use Rattle.trunk.specs.Keeping.{KeepsTrunk, messages_of}
use Rattle.trunk.specs.Laws.{IsOffered, MayPublish}
use Rattle.trunk.proofs.EachEvent.BothSides.{events_keep, near_tells, turned_keeps}
use Rattle.trunk.proofs.EachEvent.Trunks.{agree, offers, understood}
use Rattle.trunk_moves.specs.Grants.{AreNames, GrantsAnswer}
use Rattle.trunk_moves.specs.Packets.{Comes, answered, names_hunted}
use Rattle.run_settling.proofs.Offering.{over_asks, over_publishes, over_says}
use Rattle.run_settling.proofs.Settled.{IsAny, StillSettles, all_any, settling_spreads}

-- what is answered to a message that is handed up to the first side may be offered
pub answer_offers : (heard : Heard) (t : TrunkState) → KeepsTrunk t
    → IsReading (near_handed t.link (slice_get t.link.back 0)) heard → (m : Message)
    → near_handed t.link (slice_get t.link.back 0) ≡ handed.Got m
    → IsOffered (hears t.first.end.tables heard).made 1
answer_offers heard t kt read m is =
    let known = understood Second 0 m t kt is in
    subst (λ w. IsOffered (hears t.first.end.tables w).made 1)
    (sym (known.alone heard (subst (λ w. IsReading w heard) is read))) known.reply

module _ (holds : LinkState → Type 0) where
  -- ---- a packet to the first side of a trunk that is seen from this side

  -- the packet itself
  still_delivered : (at : Side) (v : LinkState)
      → StillSettles holds (seen_from at v) (seen_from at (links.near_delivered v 0 false))
  still_delivered First v h moves may = h (comes Second ∷ moves) (tt, may)
  still_delivered Second v h moves may = h (comes First ∷ moves) (tt, may)

  -- what the RLNH end says to what is handed up of it
  still_took : (at : Side) (t : TrunkState) → KeepsTrunk t → (v : LinkState) → KeepsLink v
      → (heard : Heard) (told : Handed) → TellsRightly t.link.first v.first t.link.second told
      → ((m : Message) → told ≡ handed.Got m → IsOffered (hears t.first.end.tables heard).made 1)
      → StillSettles holds (seen_from at v)
      (seen_from at (near_took (with_link t v) heard told).link)
  still_took at t kt v kv heard handed.Nothing tells reply = λ h. h
  still_took at t kt v kv heard (handed.WentUp session peer) tells reply =
      over_says IsAny (StillSettles holds) (settling_spreads holds) at begin_of t.first.end.out v
      (agree First t kt).out (subst (λ p. IsSome p) (sym tells.0.up) refl)
      (offers First t kt).begun.messages (all_any (messages_of begin_of.says)) kv
  still_took at t kt v kv heard (handed.WentDown session) tells reply = λ h. h
  still_took at t kt v kv heard (handed.Got m) tells reply =
      over_says IsAny (StillSettles holds) (settling_spreads holds) at
      (hears t.first.end.tables heard).made t.first.end.out v (agree First t kt).out
      (subst (λ p. IsSome p) (sym (tells.stays.peer ∙ tells.paired.1)) refl) (reply m refl).messages
      (all_any (messages_of (hears t.first.end.tables heard).made.says)) kv

  still_came : (at : Side) (heard : Heard) (t : TrunkState) → KeepsTrunk t
      → IsReading (near_handed t.link (slice_get t.link.back 0)) heard
      → StillSettles holds (seen_from at t.link)
      (seen_from at (near_delivered t 0 false heard).link)
  still_came at heard t kt read h =
      still_took at t kt (links.near_delivered t.link 0 false)
      (link_events.events_keep.delivered Second 0 false t.link kt.link) heard
      (near_handed t.link (slice_get t.link.back 0)) (near_tells t.link kt.link 0 false)
      (answer_offers heard t kt read) (still_delivered at t.link h)

  -- ---- a packet to either side, and what its node does then

  delivered_settles : (from : Side) (heard : Heard) (t : TrunkState) → KeepsTrunk t
      → IsReading (handed_by from 0 t.link) heard
      → StillSettles holds t.link (delivered from 0 false heard t).link
  delivered_settles First heard t kt read =
      still_came Second heard (turned t) (turned_keeps t kt) read
  delivered_settles Second heard t kt read = still_came First heard t kt read

module _ (holds : LinkState → Type 0) (P : List Step) (n : ℕ) (l : LinkNo) where
  answered_settles : (at : Side) (up : TrunkUp) (t : TrunkState) → KeepsTrunk t
      → AreNames (names_hunted P n l)
      → ((name : List ℕ) → up ≡ Asked name → (i : Inc) → holder_of P n name ≡ Some i
      → MayPublish (side_of at t) i name)
      → StillSettles holds t.link (answered P n l at up t).link
  answered_settles at (WentUp session peer) t kt named may =
      over_asks IsAny (StillSettles holds) (settling_spreads holds) at (names_hunted P n l) named
      (λ s name. all_any (messages_of (query_of s name).says)) t kt
  answered_settles at (Asked name) t kt named may =
      over_publishes IsAny (StillSettles holds) (settling_spreads holds) at name
      (holder_of P n name) (λ s i. all_any (messages_of (publish_of s i name).says)) t kt (may name refl)
  answered_settles at _ t kt named may = λ h. h

  pub comes_settles : (from : Side) (es : List Effect) (t u : TrunkState) → KeepsTrunk t
      → AreNames (names_hunted P n l) → GrantsAnswer P n from t → Comes P n l from false es t u
      → StillSettles holds t.link u.link
  comes_settles from es t u kt named grants came =
      let read = came.reading in
      let w : TrunkState = delivered from 0 false came.heard t in
      subst (λ (x : TrunkState). StillSettles holds t.link x.link) (sym came.makes)
      (λ h. answered_settles (other_of from) (told_by from 0 came.heard t) w
      (events_keep.delivered from 0 false came.heard t read kt) named
      (grants.answers false came.heard read)
      (delivered_settles holds from came.heard t kt read h))
