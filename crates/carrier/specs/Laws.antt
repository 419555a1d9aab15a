-- What is promised of a link, whatever happened to it.
use Rattle.std.specs.Prelude.{◌≡◌, ◌≢◌, ℕ, ◌+◌, ◌<◌, ◌≤◌, ◌⊎◌, Bool, true, None, Some, IsSome, List}
use Rattle.std.specs.Prelude.{[], ◌∷◌, ◌++◌, length, All}
use Rattle.linx_base.specs.declared.identity.Side.{Side}
use Rattle.linx_base.specs.Frames.{IsMessage}
use Rattle.linx_base.specs.declared.identity.Session.{Session}
use Rattle.linx_base.specs.declared.frame.Message.{Message}
use Rattle.linx_base.specs.Numbers.{boot_of, first_session, next_session}
use Rattle.linx_base.specs.Sides.{other_of}
use Rattle.ethcm_headers.specs.declared.packets.Packet.{Packet}
use Rattle.ethcm_window.specs.Sending.{left_of}
use Rattle.ethcm_end.specs.States.{peer_of}
use Rattle.carrier.specs.declared.handed.Handed.{Handed}
use Rattle.carrier.specs.declared.handed.Handed.TheVariants.{Nothing, WentUp, WentDown, Got}
use Rattle.carrier.specs.declared.handed.TickedSide.{TickedSide}
use Rattle.carrier.specs.declared.handed.TickedSide.TheVariants as ticked
use Rattle.carrier.specs.Records.{Entry, HalfState, entries, handed_at, has_session, is_pair}
use Rattle.carrier.specs.Records.{mine_of, peer_at}
use Rattle.carrier.specs.Events.{LinkState, delivered, flight_from, half_of, handed_by}
use Rattle.carrier.specs.Events.{link_told_by, lost_from, new_link, offered_to, restarted_at}
use Rattle.carrier.specs.Events.{swapped_from, ticked_at}
use Rattle.carrier.specs.Keeping.{FallsBelow, HandedFronts, KeepsLink, PeersHeld, PeersRise}

-- ---- what holds at each moment

-- two sessions of the two sides have each other as their peers
abbrev pub ArePaired : ℕ → Session → List Entry → List Entry → Type 0
ArePaired x y es others = (peer_at x es ≡ Some y) × (is_pair x y.0 others ≡ true)

-- what is promised of the near side, and of the packets in flight from it
pub record HalfPromises (near other : HalfState) (there : List Packet) : Type 0 where
  -- what was handed up in each session is a front of what the other side offered in the session
  -- that is its peer, in order and each once; nothing where that one has another peer or none
  pub fronts : HandedFronts (entries other) (entries near)
  -- the number of a later session is greater
  pub sessions_rise : FallsBelow (mine_of near) near.past
  -- the peer of a session is a session of the other side
  pub peers_held : PeersHeld (entries other) (entries near)
  -- from session to session the peers don't go back
  pub peers_rise : PeersRise (entries near)
  -- where something was handed up in a session, it and its peer have each other as their peers
  pub paired :
      (x : ℕ) → handed_at x (entries near) ≢ []
      → (y : Session) × ArePaired x y (entries near) (entries other)
  -- nothing that was offered in one session is handed up in two
  pub not_twice :
      (x w : ℕ) (y : Session) → peer_at x (entries near) ≡ Some y
      → peer_at w (entries near) ≡ Some y → x ≢ w
      → (handed_at x (entries near) ≡ []) ⊎ (handed_at w (entries near) ≡ [])
  -- each packet in flight was put in a session that is recorded
  pub recorded : All (λ p. has_session p.src.0 (entries near) ≡ true) there

-- what is promised of a link
pub record CarrierPromises (v : LinkState) : Type 0 where
  pub first : HalfPromises v.first v.second v.there
  pub second : HalfPromises v.second v.first v.back

-- both sides are up with each other, and all that either was offered was handed up at the other one
pub record IsComplete (v : LinkState) : Type 0 where
  pub first_up : peer_of v.first.end ≡ Some v.second.end.talk.mine
  pub second_up : peer_of v.second.end ≡ Some v.first.end.talk.mine
  pub there : v.second.handed ≡ v.first.offered
  pub back : v.first.handed ≡ v.second.offered

-- ---- what each event does to a side, with no packet

-- an event records nothing of a side: neither an offer, nor what was handed up, nor a session that
-- is over
pub record RecordsNothing (old new : HalfState) : Type 0 where
  pub offered : new.offered ≡ old.offered
  pub handed : new.handed ≡ old.handed
  pub past : new.past ≡ old.past

-- the session and its peer stay
pub record StaysBound (old new : HalfState) : Type 0 where
  pub session : new.end.talk.mine ≡ old.end.talk.mine
  pub peer : peer_of new.end ≡ peer_of old.end

-- the session of the near side, which had no peer, gets this one, a session of the other side
pub record GoesUpWith (old new : HalfState) (session peer : Session) : Type 0 where
  pub same : session ≡ old.end.talk.mine
  pub stays : new.end.talk.mine ≡ old.end.talk.mine
  pub was_connecting : peer_of old.end ≡ None
  pub up : peer_of new.end ≡ Some peer
  pub heard : new.end.ticks ≡ 0
  pub records : RecordsNothing old new

-- the session, which had a peer, is over and recorded, and the next one is connecting
pub record GoesDownFrom (old new : HalfState) (session : Session) : Type 0 where
  pub same : session ≡ old.end.talk.mine
  pub was_up : (peer : Session) × (peer_of old.end ≡ Some peer)
  pub next : new.end.talk.mine ≡ next_session old.end.talk.mine
  pub connecting : peer_of new.end ≡ None
  pub offered : new.offered ≡ []
  pub handed : new.handed ≡ []
  pub past : new.past ≡ entries old

-- a message of the peer, which has this session as its peer, is handed up
pub record HandsUp (old new other : HalfState) (m : Message) : Type 0 where
  pub stays : StaysBound old new
  pub paired :
      (peer : Session) × (peer_of old.end ≡ Some peer)
      × (is_pair (mine_of old) peer.0 (entries other) ≡ true)
  pub heard : new.end.ticks ≡ 0
  pub offered : new.offered ≡ old.offered
  pub handed : new.handed ≡ old.handed ++ m ∷ []
  pub past : new.past ≡ old.past

-- what a packet or a tick is handed up as says where the session goes, and how the record grows
abbrev pub TellsRightly : HalfState → HalfState → HalfState → Handed → Type 0
TellsRightly old new other Nothing = StaysBound old new × RecordsNothing old new
TellsRightly old new other (WentUp session peer) =
    GoesUpWith old new session peer × (has_session peer.0 (entries other) ≡ true)
TellsRightly old new other (WentDown session) = GoesDownFrom old new session
TellsRightly old new other (Got m) = HandsUp old new other m

-- a tick's answer among those to packets
abbrev pub handed_of : TickedSide → Handed
handed_of ticked.Stays = Nothing
handed_of (ticked.WentDown session) = WentDown session

-- a packet takes a side down only for a greater session of the other side than its peer
abbrev pub DownForGreater : HalfState → HalfState → Handed → Type 0
DownForGreater old other Nothing = Unit {0}
DownForGreater old other (WentUp session peer) = Unit {0}
DownForGreater old other (WentDown session) =
    (peer : Session) × (peer_of old.end ≡ Some peer) × (peer.0 < mine_of other)
DownForGreater old other (Got m) = Unit {0}

-- an offer adds the message, and gives at most 1,024 numbers
pub record Offers (old new : HalfState) (m : Message) : Type 0 where
  pub stays : StaysBound old new
  pub offered : new.offered ≡ old.offered ++ m ∷ []
  pub handed : new.handed ≡ old.handed
  pub past : new.past ≡ old.past
  pub numbers : left_of old.end.tx ≤ left_of new.end.tx + 1024

-- a restart records the session, and begins the first one of the boot
pub record BeginsBoot (old new : HalfState) (session : Session) : Type 0 where
  pub begins : new.end.talk.mine ≡ session
  pub greater : mine_of old < session.0
  pub connecting : peer_of new.end ≡ None
  pub offered : new.offered ≡ []
  pub handed : new.handed ≡ []
  pub past : new.past ≡ entries old

-- ---- what the events keep

-- what holds of a link holds at its beginning, and after each event
pub record EventsKeep : Type 0 where
  pub begins : (window piece : ℕ) → 1 ≤ window → 64 ≤ piece → KeepsLink (new_link window piece)
  pub delivered :
      (from : Side) (k : ℕ) (keep : Bool) (v : LinkState) → KeepsLink v
      → KeepsLink (delivered from k keep v)
  pub ticked : (side : Side) (v : LinkState) → KeepsLink v → KeepsLink (ticked_at side v)
  pub offered :
      (side : Side) (m : Message) (v : LinkState) → IsSome (peer_of (half_of side v).end)
      → IsMessage m → KeepsLink v → KeepsLink (offered_to side m v)
  pub restarted :
      (side : Side) (boot : ℕ) (v : LinkState)
      → boot_of (half_of side v).end.talk.mine < boot → KeepsLink v
      → KeepsLink (restarted_at side boot v)
  pub lost :
      (from : Side) (k : ℕ) (v : LinkState) → KeepsLink v → KeepsLink (lost_from from k v)
  pub swapped :
      (from : Side) (k n : ℕ) (v : LinkState) → k < length (flight_from from v)
      → n < length (flight_from from v) → KeepsLink v → KeepsLink (swapped_from from k n v)

-- ---- what the events tell

-- what is handed up of an event says what became of its side, and the other side stays as it is
pub record EventsTell : Type 0 where
  pub packet :
      (from : Side) (k : ℕ) (keep : Bool) (v : LinkState) → KeepsLink v
      → k < length (flight_from from v)
      → TellsRightly (half_of (other_of from) v)
      (half_of (other_of from) (delivered from k keep v)) (half_of from v) (handed_by from k v)
  -- a side goes down only for a greater session of the other one
  pub packet_down :
      (from : Side) (k : ℕ) (v : LinkState) → KeepsLink v → k < length (flight_from from v)
      → DownForGreater (half_of (other_of from) v) (half_of from v) (handed_by from k v)
  pub packet_sender :
      (from : Side) (k : ℕ) (keep : Bool) (v : LinkState)
      → half_of from (delivered from k keep v) ≡ half_of from v
  pub tick :
      (side : Side) (v : LinkState)
      → TellsRightly (half_of side v) (half_of side (ticked_at side v))
      (half_of (other_of side) v) (handed_of (link_told_by side v))
  pub tick_other :
      (side : Side) (v : LinkState)
      → half_of (other_of side) (ticked_at side v) ≡ half_of (other_of side) v
  pub offer :
      (side : Side) (m : Message) (v : LinkState) → IsSome (peer_of (half_of side v).end)
      → IsMessage m → KeepsLink v
      → Offers (half_of side v) (half_of side (offered_to side m v)) m
  pub offer_other :
      (side : Side) (m : Message) (v : LinkState)
      → half_of (other_of side) (offered_to side m v) ≡ half_of (other_of side) v
  pub restart :
      (side : Side) (boot : ℕ) (v : LinkState)
      → boot_of (half_of side v).end.talk.mine < boot
      → BeginsBoot (half_of side v) (half_of side (restarted_at side boot v))
      (first_session boot)
  pub restart_other :
      (side : Side) (boot : ℕ) (v : LinkState)
      → half_of (other_of side) (restarted_at side boot v) ≡ half_of (other_of side) v
