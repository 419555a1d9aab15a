-- That a link settles.
use Rattle.std.specs.Prelude.{◌≡◌, ℕ, suc, ◌+◌, ◌<◌, ◌≤◌, true, false, IsSome, List, [], ◌∷◌}
use Rattle.std.specs.Prelude.{length}
use Rattle.linx_base.specs.Frames.{IsMessage}
use Rattle.linx_base.specs.Sides.{other_of}
use Rattle.linx_base.specs.declared.frame.Message.{Message}
use Rattle.linx_base.specs.declared.identity.Session.{Session}
use Rattle.linx_base.specs.declared.identity.Side.{Side}
use Rattle.ethcm_end.specs.States.{peer_of}
use Rattle.carrier.specs.Events.{LinkState, delivered, flight_from, half_of, is_quiet, offered_to}
use Rattle.carrier.specs.Events.{handed_by, ticked_at}
use Rattle.carrier.specs.Keeping.{KeepsLink}
use Rattle.carrier.specs.Laws.{IsComplete}
use Rattle.carrier.specs.declared.handed.Handed.TheVariants.{Got, WentUp}
use Rattle.link_settling.specs.Runs.{IsEmpty, SettlesIn, SettlesInRounds}
use Rattle.link_settling.specs.Measure.{Falls, measure}

-- A LINK SETTLES IN SIX TICKS, whatever happened to it
pub record LinksSettle : Type 0 where
  pub begins : (side : Side) (v : LinkState) → KeepsLink v → SettlesIn 6 side v
  -- the first packet from a side comes, and messages are offered
  pub delivered :
      (n : ℕ) (side from : Side) (v : LinkState) → SettlesIn n side v
      → SettlesIn n side (delivered from 0 false v)
  pub offered :
      (n : ℕ) (side to : Side) (m : Message) (v : LinkState)
      → IsSome (peer_of (half_of to v).end) → IsMessage m → SettlesIn n side v
      → SettlesIn n side (offered_to to m v)
  -- once nothing is in flight a tick is one less, and the next is of the other side
  pub ticked :
      (n : ℕ) (side : Side) (v : LinkState) → IsEmpty v → SettlesIn (suc n) side v
      → SettlesIn n (other_of side) (ticked_at side v)
  -- and after the last of them the link is quiet
  pub quiet :
      (side : Side) (v : LinkState) → IsEmpty v → SettlesIn 0 side v → is_quiet v ≡ true
  -- so both sides are up with each other, and all that was offered was handed up
  pub complete :
      (side : Side) (v : LinkState) → KeepsLink v → IsEmpty v → SettlesIn 0 side v
      → IsComplete v

-- A LINK SETTLES IN SIX ROUNDS OR MORE, in each of which both sides tick once, whichever is the
-- first
abbrev pub LinksSettleInRounds : Type 0
LinksSettleInRounds = (n : ℕ) (v : LinkState) → 6 ≤ n → KeepsLink v → SettlesInRounds n v

-- packets can come one after the other, the first one from each of these sides: each time one is in
-- flight
abbrev pub AreInFlight : LinkState → List Side → Type 0
AreInFlight v [] = Unit {0}
AreInFlight v (from ∷ sides) =
    (0 < length (flight_from from v)) × AreInFlight (delivered from 0 false v) sides

-- the first packet from each of these sides comes, one after the other
abbrev pub come_all : LinkState → List Side → LinkState
come_all v [] = v
come_all v (from ∷ sides) = come_all (delivered from 0 false v) sides

-- WITHOUT TICKS AND OFFERS ALL PACKETS IN FLIGHT COME TO AN END, whatever the messages weigh
pub record DeliveriesEnd (weight : Message → ℕ) : Type 0 where
  -- a packet that comes and leaves its place, whichever that is, lowers the measure
  pub falls :
      (from : Side) (k : ℕ) (v : LinkState) → KeepsLink v → k < length (flight_from from v)
      → Falls (measure weight (delivered from k false v)) (measure weight v)
  -- one that takes an end up lowers the first number
  pub goes_up :
      (from : Side) (k : ℕ) (session peer : Session) (v : LinkState) → KeepsLink v
      → handed_by from k v ≡ WentUp session peer
      → (measure weight (delivered from k false v)).connecting < (measure weight v).connecting
  -- and a message that is handed up is no longer due
  pub handed :
      (from : Side) (k : ℕ) (m : Message) (v : LinkState) → KeepsLink v
      → k < length (flight_from from v) → handed_by from k v ≡ Got m
      → (measure weight (delivered from k false v)).due + weight m ≤ (measure weight v).due
  -- an offer leaves the first two numbers, those of connections and of ends that are up
  pub offered :
      (to : Side) (m : Message) (v : LinkState) → KeepsLink v
      → ((measure weight (offered_to to m v)).connecting ≡ (measure weight v).connecting)
      × ((measure weight (offered_to to m v)).up ≡ (measure weight v).up)
  -- and its message is due
  pub is_due :
      (to : Side) (m : Message) (v : LinkState) → IsSome (peer_of (half_of to v).end)
      → IsMessage m → KeepsLink v
      → (measure weight (offered_to to m v)).due ≤ (measure weight v).due + weight m
  -- so not more than so many packets come
  pub bounded :
      (v : LinkState) → KeepsLink v
      → (bound : ℕ) × ((sides : List Side) → AreInFlight v sides → length sides ≤ bound)
  -- and after some of them nothing is in flight
  pub emptied :
      (v : LinkState) → KeepsLink v
      → (sides : List Side) × AreInFlight v sides × IsEmpty (come_all v sides)
