-- What the events of a trunk keep, and what then holds of its layers.
use Rattle.std.specs.Prelude.{◌≡◌, ◌≢◌, ◌<◌, ◌≤◌, ◌^◌, ℕ, Bool, true, false, List, [], length, map}
use Rattle.std.specs.Prelude.{Option, Some, None, IsTrue, is_some}
use Rattle.std.specs.List.{AllByRecursion}
use Rattle.linx_base.specs.Frames.{IsMessage}
use Rattle.linx_base.specs.NameText.{is_name}
use Rattle.linx_base.specs.Numbers.{boot_of}
use Rattle.linx_base.specs.Sides.{other_of}
use Rattle.linx_base.specs.declared.frame.Message.{Message}
use Rattle.linx_base.specs.declared.identity.Inc.{Inc}
use Rattle.linx_base.specs.declared.identity.Side.{Side}
use Rattle.linx_base.specs.SigNotes.{SigNote}
use Rattle.link_addresses.specs.declared.meaning.Meaning.{Meaning}
use Rattle.link_addresses.specs.declared.meaning.Meaning.TheVariants.{Free, Live, Closing}
use Rattle.link_addresses.specs.Meanings.{address_of, meaning_of, HasAddressLeft}
use Rattle.rlnh_messages.specs.Signals.{IsSignal}
use Rattle.ethcm_end.specs.States.{peer_of}
use Rattle.carrier.specs.Records.{HalfState}
use Rattle.carrier.specs.Events.{flight_from, half_of, handed_by}
use Rattle.carrier.specs.declared.handed.Handed.TheVariants.{Got}
use Rattle.trunk_record.specs.Sayings.{heard_as, is_live, was_unpublished}
use Rattle.rlnh_end.specs.declared.heard.Heard.{Heard}
use Rattle.rlnh_end.specs.declared.up.Up.TheVariants.{Bad}
use Rattle.rlnh_end.specs.Calls.{Saying, begin_of, close_of, opened_of, publish_of, query_of}
use Rattle.rlnh_end.specs.Calls.{send_of}
use Rattle.rlnh_end.specs.States.{addr_met, inc_met, no_tables}
use Rattle.rlnh_end.specs.Hearing.{IsRead, hears}
use Rattle.trunk.specs.Events.{IsReading, TrunkSide, TrunkState, asked_at, closed_at, delivered}
use Rattle.trunk.specs.Events.{lost_from, new_trunk, opened_at, published_at, restarted_at, sent_at}
use Rattle.trunk.specs.Events.{side_of, swapped_from, ticked_at}
use Rattle.trunk.specs.Keeping.{KeepsTrunk, messages_of}

-- an incarnation of this name may be published: there is an address for it, and it wasn't
-- unpublished in the present session
pub record MayPublish (s : TrunkSide) (inc : Inc) (name : List ℕ) : Type 0 where
  pub has_address : HasAddressLeft s.end.tables.own
  pub numbered : inc.0 < 2 ^ 64
  pub named : IsTrue (is_name name)
  pub goes_on : was_unpublished inc s.kept.now.said ≡ false

-- a signal may be sent from an endpoint that may be published to an incarnation that was met and
-- isn't gone
pub record MaySend (s : TrunkSide) (from : Inc) (name : List ℕ) (to : Inc) (signal : SigNote)
    : Type 0 where
  pub sender : MayPublish s from name
  pub receiver : is_live to (map heard_as s.kept.now.given) ≡ true
  pub is_signal : IsSignal signal

-- what holds of a trunk holds at its beginning, and after each event
pub record EventsKeep : Type 0 where
  pub begins :
      (window piece : ℕ) → 1 ≤ window → 64 ≤ piece → KeepsTrunk (new_trunk window piece)
  pub delivered :
      (from : Side) (k : ℕ) (keep : Bool) (heard : Heard) (t : TrunkState)
      → IsReading (handed_by from k t.link) heard → KeepsTrunk t
      → KeepsTrunk (delivered from k keep heard t)
  pub ticked : (side : Side) (t : TrunkState) → KeepsTrunk t → KeepsTrunk (ticked_at side t)
  pub restarted :
      (side : Side) (boot : ℕ) (t : TrunkState)
      → boot_of (half_of side t.link).end.talk.mine < boot → KeepsTrunk t
      → KeepsTrunk (restarted_at side boot t)
  pub lost :
      (from : Side) (k : ℕ) (t : TrunkState) → KeepsTrunk t → KeepsTrunk (lost_from from k t)
  pub swapped :
      (from : Side) (k n : ℕ) (t : TrunkState) → k < length (flight_from from t.link)
      → n < length (flight_from from t.link) → KeepsTrunk t
      → KeepsTrunk (swapped_from from k n t)
  pub published :
      (side : Side) (inc : Inc) (name : List ℕ) (t : TrunkState)
      → MayPublish (side_of side t) inc name → KeepsTrunk t
      → KeepsTrunk (published_at side inc name t)
  pub opened :
      (side : Side) (inc : Inc) (name : List ℕ) (t : TrunkState)
      → MayPublish (side_of side t) inc name → KeepsTrunk t
      → KeepsTrunk (opened_at side inc name t)
  pub closed :
      (side : Side) (inc : Inc) (t : TrunkState) → KeepsTrunk t
      → KeepsTrunk (closed_at side inc t)
  pub asked :
      (side : Side) (name : List ℕ) (t : TrunkState) → IsTrue (is_name name) → KeepsTrunk t
      → KeepsTrunk (asked_at side name t)
  pub sent :
      (side : Side) (from : Inc) (name : List ℕ) (to : Inc) (signal : SigNote) (t : TrunkState)
      → MaySend (side_of side t) from name to signal → KeepsTrunk t
      → KeepsTrunk (sent_at side from name to signal t)

-- ---- what then holds

-- what an end says goes by messages that the link takes, at most `count` of them
pub record IsOffered (made : Saying) (count : ℕ) : Type 0 where
  pub messages : AllByRecursion IsMessage (messages_of made.says)
  pub few : length made.says ≤ count

-- a message that came to a side has one reading, which isn't bad, and at most one reply
pub record IsUnderstood (s : TrunkSide) (m : Message) : Type 0 where
  pub heard : Heard
  pub read : IsRead m heard
  pub alone : (other : Heard) → IsRead m other → other ≡ heard
  pub not_bad : (hears s.end.tables heard).up ≢ Bad
  pub reply : IsOffered (hears s.end.tables heard).made 1

-- each message that the link hands up is understood
abbrev pub MessagesUnderstood : Type 0
MessagesUnderstood =
    (from : Side) (k : ℕ) (m : Message) (t : TrunkState) → KeepsTrunk t
    → handed_by from k t.link ≡ Got m → IsUnderstood (side_of (other_of from) t) m

-- the half of the link, the RLNH end and the record of a side tell the same
pub record SideAgrees (s : TrunkSide) (h : HalfState) : Type 0 where
  pub session : h.end.talk.mine ≡ s.kept.now.session
  pub peer : peer_of h.end ≡ s.kept.now.peer
  -- the RLNH end has no more to say, and knows nothing while the side isn't up
  pub out : s.end.out ≡ []
  pub down : s.kept.now.peer ≡ None → s.end.tables ≡ no_tables
  -- an incarnation has an address where it was published and not unpublished since, and a peer is
  -- met where it lives by what was given
  pub own :
      (i : Inc) → is_some (address_of s.end.tables.own i) ≡ is_live i s.kept.now.said
  pub met :
      (i : Inc)
      → is_some (addr_met s.end.tables.met i) ≡ is_live i (map heard_as s.kept.now.given)

-- the half of the link, the RLNH end and the record tell the same at both sides of a trunk
abbrev pub SidesAgree : Type 0
SidesAgree =
    (side : Side) (t : TrunkState) → KeepsTrunk t
    → SideAgrees (side_of side t) (half_of side t.link)

-- what each call of a side offers
pub record CallsOffer (s : TrunkSide) : Type 0 where
  pub begun : IsOffered begin_of 1
  pub published :
      (inc : Inc) (name : List ℕ) → MayPublish s inc name
      → IsOffered (publish_of s.end.tables inc name) 1
  pub opened :
      (inc : Inc) (name : List ℕ) → MayPublish s inc name
      → IsOffered (opened_of s.end.tables inc name) 1
  pub closed : (inc : Inc) → IsOffered (close_of s.end.tables inc) 1
  pub asked :
      (name : List ℕ) → IsTrue (is_name name) → IsOffered (query_of s.end.tables name) 1
  pub sent :
      (from : Inc) (name : List ℕ) (to : Inc) (signal : SigNote)
      → MaySend s from name to signal → IsOffered (send_of s.end.tables from name to signal) 2

-- what each call of either side of a trunk offers goes by messages that the link takes
abbrev pub SidesOffer : Type 0
SidesOffer = (side : Side) (t : TrunkState) → KeepsTrunk t → CallsOffer (side_of side t)

-- ---- where the link is quiet

-- who the other end has met at an address that means this to its owner; none is closing
abbrev pub IsMetAs : Meaning → Option Inc → Type 0
IsMetAs Free met = met ≡ None
IsMetAs (Live inc) met = met ≡ Some inc
IsMetAs (Closing inc) met = ⊥

-- each end has met whom the other has published
pub record EndsAgree (t : TrunkState) : Type 0 where
  pub first :
      (a : ℕ)
      → IsMetAs (meaning_of t.first.end.tables.own a) (inc_met t.second.end.tables.met a)
  pub second :
      (a : ℕ)
      → IsMetAs (meaning_of t.second.end.tables.own a) (inc_met t.first.end.tables.met a)
