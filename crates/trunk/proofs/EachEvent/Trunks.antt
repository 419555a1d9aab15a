-- What is promised of a trunk, and what its events tell, at both sides.
use Rattle.std.proofs.Common.{◌≡◌, ◌≢◌, ◌<◌, ℕ, Bool, true, false, List, [], None, map, refl, sym}
use Rattle.std.proofs.Common.{◌∙◌, ap, subst, if◌then◌else◌, is_some, slice_get}
use Rattle.std.specs.List.{AllByRecursion}
use Rattle.linx_base.specs.Numbers.{boot_of, first_session}
use Rattle.linx_base.specs.Sides.{other_of}
use Rattle.linx_base.specs.declared.frame.Message.{Message}
use Rattle.linx_base.specs.declared.identity.Inc.{Inc}
use Rattle.linx_base.specs.declared.identity.Side.{Side}
use Rattle.linx_base.specs.declared.identity.Side.TheVariants.{First, Second}
use Rattle.ethcm_end.specs.Rules.{tick_of}
use Rattle.ethcm_end.specs.States.{peer_of}
use Rattle.carrier.specs.Events.{near_handed, ticked_as}
use Rattle.carrier.specs.Events as links
use Rattle.carrier.specs.Laws.{HandsUp, TellsRightly}
use Rattle.carrier.specs.declared.handed.Handed.{Handed}
use Rattle.carrier.specs.declared.handed.Handed.TheVariants.{Got}
use Rattle.carrier.specs.declared.handed.Handed.TheVariants as handed
use Rattle.carrier.specs.declared.handed.TickedSide.{TickedSide}
use Rattle.carrier.specs.declared.handed.TickedSide.TheVariants as ticked
use Rattle.carrier.proofs.Delivering as carried
use Rattle.carrier.proofs.Links as link_events
use Rattle.carrier.proofs.Promising as link_promising
use Rattle.trunk_record.specs.Records.{all}
use Rattle.trunk_record.specs.Sayings.{Said, heard_as, is_live}
use Rattle.trunk_record.specs.Changes.{beginning}
use Rattle.trunk_record.specs.Trunks.{IsBelow, IsTrunk}
use Rattle.rlnh_end.specs.declared.heard.Heard.{Heard}
use Rattle.rlnh_end.specs.declared.up.Up.TheVariants.{Bad}
use Rattle.rlnh_end.specs.Calls.{Saying}
use Rattle.rlnh_end.specs.Hearing.{IsRead, hears}
use Rattle.rlnh_end.specs.States.{RlnhTables, addr_met}
use Rattle.rlnh_end.specs.Words.{Word}
use Rattle.rlnh_laws.specs.Meanings.{Understands, heard_of, saids}
use Rattle.rlnh_laws.proofs.ReadBack.{reads_word}
use Rattle.trunk.specs.Events.{IsReading, TrunkState, delivered, kept_of, near_beat, near_said}
use Rattle.trunk.specs.Events.{near_says, near_ticked, near_took, restarted_at, said_at, seen_from}
use Rattle.trunk.specs.Events.{side_of, ticked_at, told_by, turned, with_link}
use Rattle.trunk.specs.Keeping.{KeepsTrunk}
use Rattle.trunk.specs.Laws.{IsOffered, IsUnderstood, MessagesUnderstood, SideAgrees, SidesAgree}
use Rattle.trunk.specs.Laws.{SidesOffer}
use Rattle.trunk.specs.Promises.{IsPeerHeld, PeersRise, SidePromises, TrunkPromises}
use Rattle.trunk.specs.Talks.{side_record, FitsWord}
use Rattle.trunk.specs.Tells.{CallsTell, DownForLater, EventsTell, PacketsTell, SideSays}
use Rattle.trunk.specs.Tells.{TellsNotes, TellsSide, TurnsTell, noted_of, up_of_tick}
use Rattle.trunk.proofs.EachEvent.Calls.{calls_offer}
use Rattle.trunk.proofs.EachEvent.BothSides.{near_tells, seen_keeps, turned_keeps}
use Rattle.trunk.proofs.Sessions.MetPeers.{is_met}
use Rattle.trunk.proofs.Sessions.Peers.{side_peers_held, side_peers_rise}
use Rattle.trunk.proofs.Sessions.Promises.{given_promises, not_twice, said_promises}
use Rattle.trunk.proofs.Messages.Reading.{messages_fit, not_bad, reply_few}
use Rattle.trunk.proofs.Messages.OfCalls.{NearSays, address_live, close_says, opened_says}
use Rattle.trunk.proofs.Messages.OfCalls.{publish_says, query_says, send_says, silent_down}
use Rattle.trunk.proofs.Sessions.Silence.{lost_same, silence_tells, swapped_same}
use Rattle.trunk.proofs.Sessions.OneSession.{hears_word}
use Rattle.trunk.proofs.EachEvent.FirstSide.{comes}
use Rattle.trunk.proofs.EachEvent.Tells.{far_half, near_down_told, near_half, near_notes}
use Rattle.trunk.proofs.EachEvent.Tells.{near_restart_above, near_side, near_tick_notes}
use Rattle.trunk.proofs.EachEvent.Tells.{near_tick_tells, own_peer, own_session}

-- ---- promises

pub trunk_record : (t : TrunkState) → KeepsTrunk t → IsTrunk t.first.kept t.second.kept
trunk_record t k = record { near = near_half t k; far = far_half t k }

side_promises : (t : TrunkState) → KeepsTrunk t → SidePromises t.first.kept t.second.kept
side_promises t k =
    let A = t.first.kept in
    let B = t.second.kept in
    let near = near_half t k in
    let far = far_half t k in
    let p = (link_promising.promises t.link k.link).first in
    record {
      given = λ x. given_promises A B near far x;
      said = λ x. said_promises A B near x;
      not_twice = λ x w y. not_twice A B near far x w y;
      sessions_rise = near.rising;
      peers_held = subst (λ r. AllByRecursion (IsPeerHeld B) (all r))
          (sym k.first.kept)
          (subst (λ r. AllByRecursion (IsPeerHeld r)
          (all (side_record k.near))) (sym k.second.kept)
          (side_peers_held t.link.first t.link.second k.near k.far k.first.mirrors
          k.second.mirrors p.peers_held));
      peers_rise = subst (λ r. PeersRise (all r)) (sym k.first.kept)
          (side_peers_rise t.link.first k.near k.first.mirrors p.peers_rise);
    }

pub promises : (t : TrunkState) → KeepsTrunk t → TrunkPromises t
promises t k =
    record { first = side_promises t k; second = side_promises (turned t) (turned_keeps t k) }

-- ---- messages are understood

near_reply : (t : TrunkState) (kt : KeepsTrunk t) (w : Word) → FitsWord w
    → Understands w (hears kt.near.now.end (heard_of w)).up
    → IsOffered (hears kt.near.now.end (heard_of w)).made 1
near_reply t kt w fits understood =
    let sound = kt.first.sound.0 in
    let reply = hears_word kt.near.now.end (saids kt.near.now.heard) w sound.tables sound.meets
    kt.first.half.holds.0.alone.apart fits understood in
    record {
      messages = messages_fit (hears kt.near.now.end (heard_of w)).made.says reply.says;
      few = reply_few kt.near.now.end (heard_of w);
    }

near_understood : (t : TrunkState) (kt : KeepsTrunk t) (k : ℕ) (m : Message)
    → near_handed t.link (slice_get t.link.back k) ≡ Got m → IsUnderstood t.first m
near_understood t kt k m is =
    let v = links.near_delivered t.link k true in
    let tells : HandsUp t.link.first v.first t.link.second m =
    subst (λ h. TellsRightly t.link.first v.first t.link.second h) is
    (near_tells t.link kt.link k true) in
    let c = comes t kt v m (link_events.events_keep.delivered Second k true t.link kt.link)
    (carried.events_tell.packet_sender Second k true t.link) tells in
    record {
      heard = heard_of c.word;
      read = subst (λ x. IsRead x (heard_of c.word)) c.message (reads_word c.word c.fits);
      alone = c.read;
      not_bad = subst (λ (s : RlnhTables). (hears s (heard_of c.word)).up ≢ Bad)
          (sym kt.first.tables)
          (not_bad c.word (hears kt.near.now.end (heard_of c.word)).up c.right.understands);
      reply = subst (λ (s : RlnhTables). IsOffered (hears s (heard_of c.word)).made 1)
          (sym kt.first.tables) (near_reply t kt c.word c.fits c.right.understands);
    }

pub understood : MessagesUnderstood
understood First k m t kt is = near_understood (turned t) (turned_keeps t kt) k m is
understood Second k m t kt is = near_understood t kt k m is

-- ---- the layers of a side tell the same

near_agrees : (t : TrunkState) (k : KeepsTrunk t) → SideAgrees t.first t.link.first
near_agrees t k =
    record {
      session = own_session t k;
      peer = own_peer t k;
      out = k.first.out;
      down = λ down. k.first.tables
          ∙ (k.first.half.holds.0.blank
          (subst (λ r. r.now.peer ≡ None) k.first.kept down)).end;
      own = address_live t k;
      met = met_live;
    }
  where
    met_live : (i : Inc) → is_some (addr_met t.first.end.tables.met i)
        ≡ is_live i (map heard_as t.first.kept.now.given)
    met_live i =
        subst (λ r. is_some (addr_met t.first.end.tables.met i)
        ≡ is_live i (map heard_as r.now.given)) (sym k.first.kept)
        (subst (λ (s : RlnhTables). is_some (addr_met s.met i)
        ≡ is_live i (map heard_as k.near.now.given)) (sym k.first.tables)
        (subst (λ said. is_some (addr_met k.near.now.end.met i) ≡ is_live i said)
        (sym k.first.half.holds.0.alone.given)
        (is_met k.near.now.end.met (saids k.near.now.heard) i k.first.half.holds.0.alone.apart
        k.first.sound.0.meets)))

pub agree : SidesAgree
agree First t k = near_agrees t k
agree Second t k = near_agrees (turned t) (turned_keeps t k)

pub offers : SidesOffer
offers First t k = calls_offer t k
offers Second t k = calls_offer (turned t) (turned_keeps t k)

-- ---- what the events tell

took_second : (t : TrunkState) (heard : Heard) (handed : Handed)
    → (near_took t heard handed).second ≡ t.second
took_second t heard handed.Nothing = refl
took_second t heard (handed.WentUp session peer) = refl
took_second t heard (handed.WentDown session) = refl
took_second t heard (handed.Got m) = refl

beat_second : (t : TrunkState) (told : TickedSide) → (near_beat t told).second ≡ t.second
beat_second t ticked.Stays = refl
beat_second t (ticked.WentDown session) = refl

said_second : (t : TrunkState) (made : Saying) → (near_said t made).second ≡ t.second
said_second t made =
    elim (is_some (peer_of t.link.first.end))
    as (λ b. (if b then near_says t made else t).second ≡ t.second)
    [ true ↦ refl | false ↦ refl ]

pub packets_tell : PacketsTell
packets_tell =
    record {
      side = side;
      notes = notes;
      down = down;
      sender = sender;
      lost = λ from at k t. (lost_same from at k t).0;
      swapped = λ from at k n t. (swapped_same from at k n t).0;
    }
  where
    side : (from : Side) (k : ℕ) (keep : Bool) (heard : Heard) (t : TrunkState) → KeepsTrunk t
        → IsReading (links.handed_by from k t.link) heard
        → TellsSide (kept_of (other_of from) t)
        (kept_of (other_of from) (delivered from k keep heard t)) (kept_of from t)
        (told_by from k heard t)
    side First k keep heard t kt read =
        near_side (turned t) (turned_keeps t kt) k keep heard read
    side Second k keep heard t kt read = near_side t kt k keep heard read

    notes : (from : Side) (k : ℕ) (keep : Bool) (heard : Heard) (t : TrunkState) → KeepsTrunk t
        → IsReading (links.handed_by from k t.link) heard
        → TellsNotes (noted_of (other_of from) t)
        (noted_of (other_of from) (delivered from k keep heard t)) (told_by from k heard t)
    notes First k keep heard t kt read =
        near_notes (turned t) (turned_keeps t kt) k keep heard read
    notes Second k keep heard t kt read = near_notes t kt k keep heard read

    down : (from : Side) (k : ℕ) (heard : Heard) (t : TrunkState) → KeepsTrunk t
        → DownForLater (kept_of (other_of from) t) (kept_of from t) (told_by from k heard t)
    down First k heard t kt = near_down_told (turned t) (turned_keeps t kt) k heard
    down Second k heard t kt = near_down_told t kt k heard

    sender : (from : Side) (k : ℕ) (keep : Bool) (heard : Heard) (t : TrunkState)
        → side_of from (delivered from k keep heard t) ≡ side_of from t
    sender First k keep heard t =
        took_second (with_link (turned t) (links.near_delivered (turned t).link k keep)) heard
        (near_handed (turned t).link (slice_get (turned t).link.back k))
    sender Second k keep heard t =
        took_second (with_link t (links.near_delivered t.link k keep)) heard
        (near_handed t.link (slice_get t.link.back k))

near_ticked_notes : (t : TrunkState)
    → TellsNotes t.first.end.tables.noted (near_ticked t).first.end.tables.noted
    (up_of_tick (ticked_as t.link.first.end.talk.mine (tick_of t.link.first.end).answer))
near_ticked_notes t =
    near_tick_notes t (links.near_ticked t.link)
    (ticked_as t.link.first.end.talk.mine (tick_of t.link.first.end).answer)

near_ticked_second : (t : TrunkState) → (near_ticked t).second ≡ t.second
near_ticked_second t =
    beat_second (with_link t (links.near_ticked t.link))
    (ticked_as t.link.first.end.talk.mine (tick_of t.link.first.end).answer)

pub turns_tell : TurnsTell
turns_tell =
    record {
      tick = tick;
      tick_notes = tick_notes;
      tick_other = tick_other;
      restart = restart;
      restart_above = restart_above;
      restart_notes = restart_notes;
      restart_other = restart_other;
    }
  where
    tick : (side : Side) (t : TrunkState) → KeepsTrunk t
        → TellsSide (kept_of side t) (kept_of side (ticked_at side t))
        (kept_of (other_of side) t) (up_of_tick (links.link_told_by side t.link))
    tick First t k = near_tick_tells t k
    tick Second t k = near_tick_tells (turned t) (turned_keeps t k)

    tick_notes : (side : Side) (t : TrunkState)
        → TellsNotes (noted_of side t) (noted_of side (ticked_at side t))
        (up_of_tick (links.link_told_by side t.link))
    tick_notes First t = near_ticked_notes t
    tick_notes Second t = near_ticked_notes (turned t)

    tick_other : (side : Side) (t : TrunkState)
        → side_of (other_of side) (ticked_at side t) ≡ side_of (other_of side) t
    tick_other First t = near_ticked_second t
    tick_other Second t = near_ticked_second (turned t)

    restart : (side : Side) (boot : ℕ) (t : TrunkState)
        → kept_of side (restarted_at side boot t)
        ≡ beginning (first_session boot) (kept_of side t)
    restart First boot t = refl
    restart Second boot t = refl

    restart_above : (side : Side) (boot : ℕ) (t : TrunkState) → KeepsTrunk t
        → boot_of (links.half_of side t.link).end.talk.mine < boot
        → AllByRecursion (IsBelow (first_session boot)) (all (kept_of side t))
    restart_above First boot t k above = near_restart_above t k boot above
    restart_above Second boot t k above =
        near_restart_above (turned t) (turned_keeps t k) boot above

    restart_notes : (side : Side) (boot : ℕ) (t : TrunkState)
        → noted_of side (restarted_at side boot t) ≡ []
    restart_notes First boot t = refl
    restart_notes Second boot t = refl

    restart_other : (side : Side) (boot : ℕ) (t : TrunkState)
        → side_of (other_of side) (restarted_at side boot t) ≡ side_of (other_of side) t
    restart_other First boot t = refl
    restart_other Second boot t = refl

-- what the first side says, seen from either
says_at : (side : Side) (t u : TrunkState) (said : List Said) (noted : List (List ℕ))
    → NearSays (seen_from side t) u said noted → SideSays side t (seen_from side u) said noted
says_at First t u said noted n = record { kept = n.kept; notes = n.notes }
says_at Second t u said noted n = record { kept = n.kept; notes = n.notes }

pub calls_tell : CallsTell
calls_tell =
    record {
      down = down;
      other = other;
      published = λ side inc name t k up. says_at side t _ _ _
          (publish_says (seen_from side t) (seen_keeps side t k) inc name up);
      opened = λ side inc name t k up. says_at side t _ _ _
          (opened_says (seen_from side t) (seen_keeps side t k) inc name up);
      closed = λ side inc t k up. says_at side t _ _ _
          (close_says (seen_from side t) (seen_keeps side t k) inc up);
      asked = λ side name t k up. says_at side t _ _ _
          (query_says (seen_from side t) (seen_keeps side t k) name up);
      sent = λ side from name to signal t k up is. says_at side t _ _ _
          (send_says (seen_from side t) (seen_keeps side t k) from name to signal up is);
    }
  where
    down : (side : Side) (call : RlnhTables → Saying) (t : TrunkState) → KeepsTrunk t
        → (kept_of side t).now.peer ≡ None → said_at side call t ≡ t
    down First call t k none = silent_down t k (call t.first.end.tables) none
    down Second call t k none =
        ap turned (silent_down (turned t) (turned_keeps t k) (call t.second.end.tables) none)

    other : (side : Side) (call : RlnhTables → Saying) (t : TrunkState)
        → side_of (other_of side) (said_at side call t) ≡ side_of (other_of side) t
    other First call t = said_second t (call t.first.end.tables)
    other Second call t = said_second (turned t) (call t.second.end.tables)

pub events_tell : EventsTell
events_tell =
    record {
      packets = packets_tell;
      turns = turns_tell;
      calls = calls_tell;
      silence = silence_tells;
    }
