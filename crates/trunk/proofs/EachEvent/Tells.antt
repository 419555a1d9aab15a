-- What the events of a trunk tell.
use Rattle.std.proofs.Common.{◌≡◌, ◌<◌, ℕ, Bool, true, Option, Some, None, arith, refl, sym, ◌∙◌}
use Rattle.std.proofs.Common.{ap, subst, slice_get}
use Rattle.std.proofs.lemmas.Option.{slice_get_within}
use Rattle.std.specs.List.{AllByRecursion, list_any}
use Rattle.linx_base.specs.Numbers.{boot_of, first_session, next_session}
use Rattle.linx_base.specs.declared.frame.Message.{Message}
use Rattle.linx_base.specs.declared.identity.Session.{Session}
use Rattle.linx_base.specs.declared.identity.Side.TheVariants.{First, Second}
use Rattle.ethcm_headers.specs.declared.packets.Packet.{Packet}
use Rattle.ethcm_end.specs.Rules.{tick_of}
use Rattle.ethcm_end.specs.States.{peer_of}
use Rattle.carrier.specs.Records.{entries}
use Rattle.carrier.specs.Events.{LinkState, near_handed, ticked_as}
use Rattle.carrier.specs.Events as links
use Rattle.carrier.specs.Keeping.{KeepsLink}
use Rattle.carrier.specs.Keeping as link_keeping
use Rattle.carrier.specs.Laws.{DownForGreater, GoesDownFrom, GoesUpWith, HandsUp, TellsRightly}
use Rattle.carrier.specs.Laws.{handed_of}
use Rattle.carrier.specs.declared.handed.Handed.{Handed}
use Rattle.carrier.specs.declared.handed.Handed.TheVariants.{Nothing, WentUp, WentDown, Got}
use Rattle.carrier.specs.declared.handed.TickedSide.{TickedSide}
use Rattle.carrier.specs.declared.handed.TickedSide.TheVariants as ticked
use Rattle.carrier.proofs.Delivering as carried
use Rattle.carrier.proofs.Links as link_events
use Rattle.carrier.proofs.Promising.{promises}
use Rattle.trunk_record.specs.Records.{SideRecord, all, has_session}
use Rattle.trunk_record.specs.Sayings.{is_live}
use Rattle.trunk_record.specs.Trunks.{AllFall, IsBelow, IsHalf}
use Rattle.trunk_record.proofs.Lists.{all-impl}
use Rattle.rlnh_end.specs.declared.heard.Heard.{Heard}
use Rattle.rlnh_end.specs.declared.up.Up.{Up}
use Rattle.rlnh_end.specs.declared.up.Up.TheVariants as ups
use Rattle.rlnh_end.specs.States.{RlnhTables}
use Rattle.rlnh_end.specs.Hearing.{IsRead, hears}
use Rattle.rlnh_laws.specs.Meanings.{given_for, heard_of}
use Rattle.trunk.specs.Events.{IsReading, TrunkState, given_for_heard, giving_all, near_beat}
use Rattle.trunk.specs.Events.{near_delivered, near_down, near_heard, near_ticked, near_took}
use Rattle.trunk.specs.Events.{near_up, told_of, told_up, with_link}
use Rattle.trunk.specs.Keeping.{KeepsTrunk}
use Rattle.trunk.specs.Promises.{PeersUpTo}
use Rattle.trunk.specs.Talks.{all_talks, side_record}
use Rattle.trunk.specs.Tells.{DownForLater, IsDown, IsUp, TellsNotes, TellsSide, stays, up_of_tick}
use Rattle.trunk.proofs.EachEvent.BothSides.{near_tells}
use Rattle.trunk.proofs.Messages.Given.{notes_told, word_told}
use Rattle.trunk.proofs.Sessions.Growing.{both_turned}
use Rattle.trunk.proofs.Sessions.Peers.{peers_upto, session_had}
use Rattle.trunk.proofs.Sessions.Records.{half_record}
use Rattle.trunk.proofs.EachEvent.FirstSide.{both_of, comes, heard_keeps}

-- ---- what a trunk keeps of its record

pub near_half : (t : TrunkState) → KeepsTrunk t → IsHalf t.first.kept t.second.kept
near_half t k =
    subst (λ B. IsHalf t.first.kept B) (sym k.second.kept)
    (subst (λ A. IsHalf A (side_record k.far)) (sym k.first.kept)
    (half_record k.near k.far (both_of t k) k.first.sound))

pub far_half : (t : TrunkState) → KeepsTrunk t → IsHalf t.second.kept t.first.kept
far_half t k =
    subst (λ B. IsHalf t.second.kept B) (sym k.first.kept)
    (subst (λ A. IsHalf A (side_record k.near)) (sym k.second.kept)
    (half_record k.far k.near (both_turned k.near k.far (both_of t k)) k.second.sound))

-- ---- a session that begins is above all before

pub all_below : (A : SideRecord) (y : Session) → AllFall (all A) → A.now.session.0 < y.0
    → AllByRecursion (IsBelow y) (all A)
all_below A y falls h = (
  h,
  all-impl (IsBelow A.now.session) (IsBelow y) (λ e at. omega arith) A.earlier falls.0,
)

pub own_session : (t : TrunkState) (k : KeepsTrunk t)
    → t.link.first.end.talk.mine ≡ t.first.kept.now.session
own_session t k = k.first.mirrors.0.number ∙ ap (λ r. r.now.session) (sym k.first.kept)

pub own_peer : (t : TrunkState) (k : KeepsTrunk t)
    → peer_of t.link.first.end ≡ t.first.kept.now.peer
own_peer t k = k.first.mirrors.0.peer ∙ ap (λ r. r.now.peer) (sym k.first.kept)

-- ---- going down

pub fell_tells : (t : TrunkState) → KeepsTrunk t → (v : LinkState) (session : Session)
    → GoesDownFrom t.link.first v.first session
    → IsDown t.first.kept (near_down (with_link t v) (next_session session)).first.kept session
fell_tells t k v session down =
    let own : session ≡ t.first.kept.now.session = down.same ∙ own_session t k in
    record {
      own = own;
      was_up = λ none. some_none down.was_up.0 (sym down.was_up.1 ∙ own_peer t k ∙ none);
      kept = refl;
      above = all_below t.first.kept (next_session session) (near_half t k).rising
          (subst (λ (s : Session). s.0 < (next_session session).0) own (omega arith));
    }
  where
    some_none : (y : Session) → Some y ≡ None → ⊥
    some_none y e = absurd cc

-- ---- going up

up_tells : (t : TrunkState) → KeepsTrunk t → (v : LinkState) (session peer : Session)
    → KeepsLink v → v.second ≡ t.link.second
    → TellsRightly t.link.first v.first t.link.second (WentUp session peer)
    → IsUp t.first.kept (near_up (with_link t v) peer).first.kept t.second.kept session peer
up_tells t k v session peer kv same tells =
    let goes = tells.0 in
    record {
      own = goes.same ∙ own_session t k;
      was_down = sym (own_peer t k) ∙ goes.was_connecting;
      kept = refl;
      held = subst (λ r. list_any
          (has_session peer) (all r) ≡ true)
          (sym k.second.kept)
          (session_had peer (entries t.link.second)
          (all_talks k.far) k.second.mirrors tells.1);
      upto = subst (λ r. PeersUpTo peer (all r)) (sym k.first.kept) (upto_all goes);
    }
  where
    none_up : (z : Session) → k.near.now.peer ≡ None → k.near.now.peer ≡ Some z → ⊥
    none_up z none some = let e = sym none ∙ some in absurd cc

    upto_all : GoesUpWith t.link.first v.first session peer
        → PeersUpTo peer (all (side_record k.near))
    upto_all goes =
        let rise = (promises v kv).first.peers_rise.0 peer goes.up in
        let past = subst (λ es. link_keeping.PeersUpTo peer.0 es)
        goes.records.past rise in (
          (λ z is. absurd (none_up z (sym (k.first.mirrors.0.peer) ∙ goes.was_connecting) is)),
          peers_upto peer t.link.first.past k.near.earlier k.first.mirrors.1 past,
        )

-- ---- a message comes

pub heard_tells : (t : TrunkState) (k : KeepsTrunk t) (v : LinkState) (m : Message)
    (heard : Heard) → KeepsLink v → v.second ≡ t.link.second
    → HandsUp t.link.first v.first t.link.second m → IsRead m heard
    → TellsSide t.first.kept (near_heard (with_link t v) heard).first.kept t.second.kept
    (told_up (hears t.first.end.tables heard).up)
heard_tells t k v m heard kv same h read =
    let A = t.first.kept in
    let C = (near_heard (with_link t v) heard).first.kept in
    let c = comes t k v m kv same h in
    let w = c.word in
    let u = (hears k.near.now.end (heard_of w)).up in
    let half = near_half (near_heard (with_link t v) heard)
    (heard_keeps t k v m heard kv same h read) in
    let given : given_for_heard t.first.end.tables heard ≡ given_for w u =
    ap (λ x. given_for_heard x heard) k.first.tables
    ∙ ap (λ x. given_for_heard k.near.now.end x) (c.read heard read)
    ∙ sym c.given in
    let is : (hears t.first.end.tables heard).up ≡ u =
    ap (λ (x : RlnhTables). (hears x heard).up) k.first.tables
    ∙ ap (λ x. (hears k.near.now.end x).up) (c.read heard read) in
    subst (λ x. TellsSide A C t.second.kept (told_up x)) (sym is)
    (word_told A C t.second.kept w u c.right.understands (ap (λ g. giving_all g A) given) half
    (λ x y note e. subst (λ r. is_live y r.now.said ≡ true) (sym k.first.kept)
    (c.right.lives x y note e)))

pub heard_notes : (t : TrunkState) (k : KeepsTrunk t) (v : LinkState) (m : Message)
    (heard : Heard) → KeepsLink v → v.second ≡ t.link.second
    → HandsUp t.link.first v.first t.link.second m → IsRead m heard
    → TellsNotes t.first.end.tables.noted
    (near_heard (with_link t v) heard).first.end.tables.noted
    (told_up (hears t.first.end.tables heard).up)
heard_notes t k v m heard kv same h read =
    let c = comes t k v m kv same h in
    subst (λ x. TellsNotes t.first.end.tables.noted
    (hears t.first.end.tables x).made.tables.noted (told_up (hears t.first.end.tables x).up))
    (sym (c.read heard read)) (notes_told t.first.end.tables c.word)

-- ---- what was handed up

pub took_tells : (t : TrunkState) → KeepsTrunk t → (v : LinkState) → KeepsLink v
    → v.second ≡ t.link.second → (handed : Handed)
    → TellsRightly t.link.first v.first t.link.second handed → (heard : Heard)
    → IsReading handed heard
    → TellsSide t.first.kept (near_took (with_link t v) heard handed).first.kept t.second.kept
    (told_of t.first.end.tables heard handed)
took_tells t k v kv same Nothing tells heard read = stays refl
took_tells t k v kv same (WentUp session peer) tells heard read =
    up_tells t k v session peer kv same tells
took_tells t k v kv same (WentDown session) tells heard read = fell_tells t k v session tells
took_tells t k v kv same (Got m) tells heard read = heard_tells t k v m heard kv same tells read

pub took_notes : (t : TrunkState) → KeepsTrunk t → (v : LinkState) → KeepsLink v
    → v.second ≡ t.link.second → (handed : Handed)
    → TellsRightly t.link.first v.first t.link.second handed → (heard : Heard)
    → IsReading handed heard
    → TellsNotes t.first.end.tables.noted
    (near_took (with_link t v) heard handed).first.end.tables.noted
    (told_of t.first.end.tables heard handed)
took_notes t k v kv same Nothing tells heard read = refl
took_notes t k v kv same (WentUp session peer) tells heard read = refl
took_notes t k v kv same (WentDown session) tells heard read = refl
took_notes t k v kv same (Got m) tells heard read = heard_notes t k v m heard kv same tells read

-- ---- a packet to the first side

module _ (t : TrunkState) (kt : KeepsTrunk t) (k : ℕ) (keep : Bool) (heard : Heard)
    (read : IsReading (near_handed t.link (slice_get t.link.back k)) heard) where
  pub near_side : TellsSide t.first.kept (near_delivered t k keep heard).first.kept
      t.second.kept (told_of t.first.end.tables heard
      (near_handed t.link (slice_get t.link.back k)))
  near_side = took_tells t kt (links.near_delivered t.link k keep)
      (link_events.events_keep.delivered Second k keep t.link kt.link)
      (carried.events_tell.packet_sender Second k keep t.link)
      (near_handed t.link (slice_get t.link.back k)) (near_tells t.link kt.link k keep) heard read

  pub near_notes : TellsNotes t.first.end.tables.noted
      (near_delivered t k keep heard).first.end.tables.noted (told_of t.first.end.tables heard
      (near_handed t.link (slice_get t.link.back k)))
  near_notes = took_notes t kt (links.near_delivered t.link k keep)
      (link_events.events_keep.delivered Second k keep t.link kt.link)
      (carried.events_tell.packet_sender Second k keep t.link)
      (near_handed t.link (slice_get t.link.back k)) (near_tells t.link kt.link k keep) heard read

-- it takes the side down only for a later session
no_down : (A B : SideRecord) (u : Up) → DownForLater A B (told_up u)
no_down A B ups.Nothing = tt
no_down A B _ = tt

far_session : (t : TrunkState) (k : KeepsTrunk t)
    → t.link.second.end.talk.mine ≡ t.second.kept.now.session
far_session t k = k.second.mirrors.0.number ∙ ap (λ r. r.now.session) (sym k.second.kept)

down_told : (t : TrunkState) → KeepsTrunk t → (heard : Heard) (handed : Handed)
    → DownForGreater t.link.first t.link.second handed
    → DownForLater t.first.kept t.second.kept (told_of t.first.end.tables heard handed)
down_told t k heard Nothing down = tt
down_told t k heard (WentUp session peer) down = tt
down_told t k heard (WentDown session) down = (
  down.0,
  sym (own_peer t k) ∙ down.1,
  subst (λ (s : Session). down.0.0 < s.0) (far_session t k) down.2,
)
down_told t k heard (Got m) down =
    no_down t.first.kept t.second.kept (hears t.first.end.tables heard).up

pub near_down_told : (t : TrunkState) → KeepsTrunk t → (k : ℕ) (heard : Heard)
    → DownForLater t.first.kept t.second.kept
    (told_of t.first.end.tables heard (near_handed t.link (slice_get t.link.back k)))
near_down_told t kt k heard = by_packet (slice_get t.link.back k) refl
  where
    by_packet : (o : Option Packet) → slice_get t.link.back k ≡ o
        → DownForLater t.first.kept t.second.kept
        (told_of t.first.end.tables heard (near_handed t.link o))
    by_packet None is = tt
    by_packet (Some p) is =
        subst (λ o. DownForLater t.first.kept t.second.kept
        (told_of t.first.end.tables heard (near_handed t.link o))) is
        (down_told t kt heard (near_handed t.link (slice_get t.link.back k))
        (carried.events_tell.packet_down Second k t.link kt.link
        (slice_get_within t.link.back k p is)))

-- ---- a tick

beat_tells : (t : TrunkState) → KeepsTrunk t → (v : LinkState) (told : TickedSide)
    → TellsRightly t.link.first v.first t.link.second (handed_of told)
    → TellsSide t.first.kept (near_beat (with_link t v) told).first.kept t.second.kept
    (up_of_tick told)
beat_tells t k v ticked.Stays tells = stays refl
beat_tells t k v (ticked.WentDown session) tells = fell_tells t k v session tells

pub near_tick_tells : (t : TrunkState) → KeepsTrunk t
    → TellsSide t.first.kept (near_ticked t).first.kept t.second.kept
    (up_of_tick (ticked_as t.link.first.end.talk.mine (tick_of t.link.first.end).answer))
near_tick_tells t k =
    beat_tells t k (links.near_ticked t.link)
    (ticked_as t.link.first.end.talk.mine (tick_of t.link.first.end).answer)
    (carried.events_tell.tick First t.link)

pub near_tick_notes : (t : TrunkState) (v : LinkState) (told : TickedSide)
    → TellsNotes t.first.end.tables.noted
    (near_beat (with_link t v) told).first.end.tables.noted (up_of_tick told)
near_tick_notes t v ticked.Stays = refl
near_tick_notes t v (ticked.WentDown session) = refl

-- ---- a restart

pub near_restart_above : (t : TrunkState) → KeepsTrunk t → (boot : ℕ)
    → boot_of t.link.first.end.talk.mine < boot
    → AllByRecursion (IsBelow (first_session boot)) (all t.first.kept)
near_restart_above t k boot above =
    all_below t.first.kept (first_session boot) (near_half t k).rising
    (subst (λ (s : Session). s.0 < (first_session boot).0) (own_session t k)
    (carried.events_tell.restart First boot t.link above).greater)
