-- What holds of a trunk holds at its beginning and after each event, at both sides.
use Rattle.std.proofs.Common.{◌≡◌, ◌≤◌, ◌<◌, ℕ, Bool, [], Option, Some, None, length, refl, sym}
use Rattle.std.proofs.Common.{subst, slice_get}
use Rattle.std.proofs.lemmas.Option.{slice_get_within}
use Rattle.linx_base.specs.Numbers.{boot_of, first_session}
use Rattle.linx_base.specs.declared.identity.Side.{Side}
use Rattle.linx_base.specs.declared.identity.Side.TheVariants.{First, Second}
use Rattle.ethcm_headers.specs.declared.packets.Packet.{Packet}
use Rattle.ethcm_end.specs.Rules.{tick_of}
use Rattle.carrier.specs.Events.{LinkState, near_handed, ticked_as}
use Rattle.carrier.specs.Events as links
use Rattle.carrier.specs.Keeping.{KeepsLink}
use Rattle.carrier.specs.Records.{new_half}
use Rattle.carrier.specs.Laws.{TellsRightly, handed_of}
use Rattle.carrier.specs.declared.handed.TickedSide.{TickedSide}
use Rattle.carrier.specs.declared.handed.TickedSide.TheVariants as ticked
use Rattle.carrier.proofs.Delivering.{events_tell}
use Rattle.carrier.proofs.Links as carried
use Rattle.rlnh_end.specs.declared.heard.Heard.{Heard}
use Rattle.rlnh_laws.specs.Ties.{Pair}
use Rattle.trunk.specs.Events.{IsReading, TrunkState, delivered, lost_from, near_beat}
use Rattle.trunk.specs.Events.{near_delivered, near_restarted, near_ticked, new_trunk}
use Rattle.trunk.specs.Events.{new_trunk_side, restarted_at, seen_from, swapped_from, ticked_at}
use Rattle.trunk.specs.Events.{turned, with_link}
use Rattle.trunk.specs.Keeping.{KeepsSide, KeepsTrunk}
use Rattle.trunk.specs.Laws.{EventsKeep}
use Rattle.trunk.specs.Talks.{KeepsTalks, Talks, all_talks, fresh_talk}
use Rattle.trunk.proofs.EachEvent.Calls.{close_keeps, opened_keeps, publish_keeps, query_keeps}
use Rattle.trunk.proofs.EachEvent.Calls.{send_keeps}
use Rattle.trunk.proofs.Sessions.Partners.{alone_fresh, down_partner, pair_fresh}
use Rattle.trunk.proofs.Sessions.OneSession.{fresh_sound}
use Rattle.trunk.proofs.EachEvent.FirstSide.{down_keeps, fell_keeps, stays_keeps, took_keeps}

-- ---- both ways

link_turned : (v : LinkState) → KeepsLink v → KeepsLink (links.turned v)
link_turned v k = record { piece = k.piece; sized = k.sized; near = k.far; far = k.near }

pub turned_keeps : (t : TrunkState) → KeepsTrunk t → KeepsTrunk (turned t)
turned_keeps t k =
    record {
      link = link_turned t.link k.link;
      near = k.far;
      far = k.near;
      first = k.second;
      second = k.first;
    }

pub seen_keeps : (side : Side) (t : TrunkState) → KeepsTrunk t → KeepsTrunk (seen_from side t)
seen_keeps First t k = k
seen_keeps Second t k = turned_keeps t k

-- ---- the beginning

abbrev new_talks : Talks
new_talks = record { now = fresh_talk (first_session 1); earlier = [] }

new_half_holds : KeepsTalks new_talks new_talks
new_half_holds =
    let x = first_session 1 in
    record {
      falls = tt;
      holds = (
        record {
          alone = alone_fresh x;
          pair = subst (λ f. Pair (fresh_talk x) f)
              (sym (down_partner (fresh_talk x) (all_talks new_talks)
              refl)) (pair_fresh x (record { 0 = 0 }));
          blank = λ none. record { words = refl; heard = refl; given = refl; end = refl };
        },
        tt,
      );
    }

new_side_keeps : (window piece : ℕ)
    → KeepsSide new_trunk_side (new_half window piece) new_talks
    new_talks
new_side_keeps window piece =
    record {
      half = new_half_holds;
      sound = (fresh_sound (first_session 1), tt);
      mirrors = (record { number = refl; peer = refl; offered = refl; handed = refl }, tt);
      tables = refl;
      out = refl;
      kept = refl;
    }

new_keeps : (window piece : ℕ) → 1 ≤ window → 64 ≤ piece → KeepsTrunk (new_trunk window piece)
new_keeps window piece h i =
    record {
      link = carried.events_keep.begins window piece h i;
      near = new_talks;
      far = new_talks;
      first = new_side_keeps window piece;
      second = new_side_keeps window piece;
    }

-- ---- an event at the first side

-- what the link tells of a packet, which may not be there
pub near_tells : (v : LinkState) → KeepsLink v → (k : ℕ) (keep : Bool)
    → TellsRightly v.first (links.near_delivered v k keep).first v.second
    (near_handed v (slice_get v.back k))
near_tells v kv k keep = by_packet (slice_get v.back k) refl
  where
    by_packet : (o : Option Packet) → slice_get v.back k ≡ o
        → TellsRightly v.first (links.near_took v k keep o).first v.second (near_handed v o)
    by_packet None is = (
      record { session = refl; peer = refl },
      record { offered = refl; handed = refl; past = refl },
    )
    by_packet (Some p) is =
        subst (λ o. TellsRightly v.first (links.near_took v k keep o).first v.second
        (near_handed v o)) is
        (events_tell.packet Second k keep v kv (slice_get_within v.back k p is))

near_delivered_keeps : (t : TrunkState) → KeepsTrunk t → (k : ℕ) (keep : Bool) (heard : Heard)
    → IsReading (near_handed t.link (slice_get t.link.back k)) heard
    → KeepsTrunk (near_delivered t k keep heard)
near_delivered_keeps t kt k keep heard read =
    took_keeps t kt (links.near_delivered t.link k keep)
    (carried.events_keep.delivered Second k keep t.link kt.link)
    (events_tell.packet_sender Second k keep t.link) (near_handed t.link (slice_get t.link.back k))
    (near_tells t.link kt.link k keep) heard read

beat_keeps : (t : TrunkState) → KeepsTrunk t → (v : LinkState) → KeepsLink v
    → v.second ≡ t.link.second → (told : TickedSide)
    → TellsRightly t.link.first v.first t.link.second (handed_of told)
    → KeepsTrunk (near_beat (with_link t v) told)
beat_keeps t k v kv same ticked.Stays tells = stays_keeps t k v kv same tells.0 tells.1
beat_keeps t k v kv same (ticked.WentDown session) tells = fell_keeps t k v session kv same tells

near_ticked_keeps : (t : TrunkState) → KeepsTrunk t → KeepsTrunk (near_ticked t)
near_ticked_keeps t k =
    beat_keeps t k (links.near_ticked t.link) (carried.events_keep.ticked First t.link k.link)
    (events_tell.tick_other First t.link)
    (ticked_as t.link.first.end.talk.mine (tick_of t.link.first.end).answer)
    (events_tell.tick First t.link)

near_restarted_keeps : (t : TrunkState) → KeepsTrunk t → (boot : ℕ)
    → boot_of t.link.first.end.talk.mine < boot → KeepsTrunk (near_restarted t boot)
near_restarted_keeps t k boot above =
    let b = events_tell.restart First boot t.link above in
    down_keeps t k (links.near_restarted t.link boot) (first_session boot)
    (carried.events_keep.restarted First boot t.link above k.link)
    (events_tell.restart_other First boot t.link) b.greater b.begins b.connecting b.offered b.handed
    b.past

-- the link lost or exchanged packets
flown_keeps : (t : TrunkState) → KeepsTrunk t → (v : LinkState) → KeepsLink v
    → v.first ≡ t.link.first → v.second ≡ t.link.second → KeepsTrunk (with_link t v)
flown_keeps t k v kv one two =
    record {
      link = kv;
      near = k.near;
      far = k.far;
      first = subst (λ h. KeepsSide t.first h k.near k.far) (sym one) k.first;
      second = subst (λ h. KeepsSide t.second h k.far k.near) (sym two) k.second;
    }

-- ---- an event at either side

delivered_keeps : (from : Side) (k : ℕ) (keep : Bool) (heard : Heard) (t : TrunkState)
    → IsReading (links.handed_by from k t.link) heard → KeepsTrunk t
    → KeepsTrunk (delivered from k keep heard t)
delivered_keeps First k keep heard t read kt =
    turned_keeps (near_delivered (turned t) k keep heard)
    (near_delivered_keeps (turned t) (turned_keeps t kt) k keep heard read)
delivered_keeps Second k keep heard t read kt = near_delivered_keeps t kt k keep heard read

lost_keeps : (from : Side) (k : ℕ) (t : TrunkState) → KeepsTrunk t
    → KeepsTrunk (lost_from from k t)
lost_keeps First k t kt = flown_keeps t kt (links.lost_from First k t.link)
    (carried.events_keep.lost First k t.link kt.link) refl refl
lost_keeps Second k t kt = flown_keeps t kt (links.lost_from Second k t.link)
    (carried.events_keep.lost Second k t.link kt.link) refl refl

swapped_keeps : (from : Side) (k n : ℕ) (t : TrunkState)
    → k < length (links.flight_from from t.link) → n < length (links.flight_from from t.link)
    → KeepsTrunk t → KeepsTrunk (swapped_from from k n t)
swapped_keeps First k n t h i kt = flown_keeps t kt (links.swapped_from First k n t.link)
    (carried.events_keep.swapped First k n t.link h i kt.link) refl refl
swapped_keeps Second k n t h i kt = flown_keeps t kt (links.swapped_from Second k n t.link)
    (carried.events_keep.swapped Second k n t.link h i kt.link) refl refl

pub events_keep : EventsKeep
events_keep =
    record {
      begins = new_keeps;
      delivered = delivered_keeps;
      ticked = ticked_keeps;
      restarted = restarted_keeps;
      lost = lost_keeps;
      swapped = swapped_keeps;
      published = λ side inc name t may k. seen_keeps side _
          (publish_keeps (seen_from side t) (seen_keeps side t k) inc name may);
      opened = λ side inc name t may k. seen_keeps side _
          (opened_keeps (seen_from side t) (seen_keeps side t k) inc name may);
      closed = λ side inc t k. seen_keeps side _
          (close_keeps (seen_from side t) (seen_keeps side t k) inc);
      asked = λ side name t is k. seen_keeps side _
          (query_keeps (seen_from side t) (seen_keeps side t k) name is);
      sent = λ side from name to signal t may k. seen_keeps side _
          (send_keeps (seen_from side t) (seen_keeps side t k) from name to signal may);
    }
  where
    ticked_keeps : (side : Side) (t : TrunkState) → KeepsTrunk t
        → KeepsTrunk (ticked_at side t)
    ticked_keeps side t k = seen_keeps side (near_ticked (seen_from side t))
        (near_ticked_keeps (seen_from side t) (seen_keeps side t k))

    restarted_keeps : (side : Side) (boot : ℕ) (t : TrunkState)
        → boot_of (links.half_of side t.link).end.talk.mine < boot → KeepsTrunk t
        → KeepsTrunk (restarted_at side boot t)
    restarted_keeps First boot t above k = near_restarted_keeps t k boot above
    restarted_keeps Second boot t above k =
        turned_keeps (near_restarted (turned t) boot)
        (near_restarted_keeps (turned t) (turned_keeps t k) boot above)
