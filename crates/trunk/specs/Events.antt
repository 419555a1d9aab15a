-- What each event makes of the two sides of a trunk: of the link, of the RLNH ends, and of what is
-- recorded of both sides. What is heard is given beside an event that hands a message up: a message
-- has one reading.
use Rattle.std.specs.Prelude.{ℕ, Bool, if◌then◌else◌, List, [], ◌∷◌, ◌++◌, ◌≤◌, is_some, slice_get}
use Rattle.linx_base.specs.Numbers.{first_session, next_session}
use Rattle.linx_base.specs.Sides.{other_of}
use Rattle.linx_base.specs.declared.frame.Message.{Message}
use Rattle.linx_base.specs.declared.identity.Inc.{Inc}
use Rattle.linx_base.specs.declared.identity.Session.{Session}
use Rattle.linx_base.specs.declared.identity.Side.{Side}
use Rattle.linx_base.specs.declared.identity.Side.TheVariants.{First, Second}
use Rattle.linx_base.specs.SigNotes.{SigNote}
use Rattle.ethcm_end.specs.States.{peer_of}
use Rattle.ethcm_end.specs.Rules.{tick_of}
use Rattle.carrier.specs.declared.handed.Handed.{Handed}
use Rattle.carrier.specs.declared.handed.Handed.TheVariants.{Nothing, WentUp, WentDown, Got}
use Rattle.carrier.specs.declared.handed.TickedSide.{TickedSide}
use Rattle.carrier.specs.declared.handed.TickedSide.TheVariants as ticked
use Rattle.carrier.specs.Events.{LinkState, near_handed, near_offered, new_link, ticked_as, half_of}
use Rattle.carrier.specs.Events as links
use Rattle.trunk_record.specs.Records.{SideRecord}
use Rattle.trunk_record.specs.Sayings.{Given, arrived, asked_for, freed, gone, met}
use Rattle.trunk_record.specs.Changes.{beginning, going_up, new_side}
use Rattle.trunk_record.specs.Changes as changes
use Rattle.rlnh_end.specs.declared.heard.Heard.{Heard}
use Rattle.rlnh_end.specs.declared.up.Up.{Up}
use Rattle.rlnh_end.specs.declared.up.Up.TheVariants as ups
use Rattle.rlnh_end.specs.States.{RlnhState, RlnhTables, emptied, new_end}
use Rattle.rlnh_end.specs.Calls.{Saying, after, begin_of, close_of, opened_of, publish_of, query_of}
use Rattle.rlnh_end.specs.Calls.{send_of}
use Rattle.rlnh_end.specs.Hearing.{IsRead, hears}
use Rattle.rlnh_end.specs.Reactions.{rlnh_input_of}
use Rattle.rlnh_laws.specs.Meanings.{saids}
use Rattle.trunk.specs.declared.up.TrunkUp.{TrunkUp}
use Rattle.ethcm_window.specs.Sending.{left_of}
use Rattle.trunk.specs.declared.up.TrunkUp.TheVariants as tells

-- ---- a trunk

-- one side of a trunk, above its link: its RLNH end, and the record of what it said and was given
pub record TrunkSide : Type 0 where
  pub end : RlnhState
  pub kept : SideRecord

-- a trunk: its link, and both sides
pub record TrunkState : Type 0 where
  pub link : LinkState
  pub first : TrunkSide
  pub second : TrunkSide

-- a side before anything happened, in the first session of boot 1
abbrev pub new_trunk_side : TrunkSide
new_trunk_side = record { end = new_end; kept = new_side (first_session 1) }

-- a trunk before anything happened
abbrev pub new_trunk : ℕ → ℕ → TrunkState
new_trunk window piece =
    record { link = new_link window piece; first = new_trunk_side; second = new_trunk_side }

-- ---- a trunk, seen from one of its sides

-- a side has numbers left for all frames of four messages, and an event says no more
abbrev pub HasNumbersLeft : Side → TrunkState → Type 0
HasNumbersLeft side t = 4096 ≤ left_of (half_of side t.link).end.tx

-- a trunk whose link is this now
abbrev pub with_link : TrunkState → LinkState → TrunkState
with_link t v = record t { link = v }

-- messages are offered to the first side of a link, one after the other
abbrev pub near_offers : LinkState → List Message → LinkState
near_offers v [] = v
near_offers v (m ∷ ms) = near_offers (near_offered v m) ms

-- all that an RLNH end had to say is taken out
abbrev pub taken_out : RlnhState → RlnhState
taken_out s = record s { out = [] }

-- the first side gets this RLNH end and this record; what the end has to say is taken out and
-- offered to the link, in order
abbrev pub near_pumped : TrunkState → RlnhState → SideRecord → TrunkState
near_pumped t s kept =
    record t {
      link = near_offers t.link s.out;
      first = record { end = taken_out s; kept = kept };
    }

-- the RLNH end of the first side says this, which is recorded
abbrev pub near_says : TrunkState → Saying → TrunkState
near_says t made =
    near_pumped t (after t.first.end made) (changes.saying (saids made.says) t.first.kept)

-- a side that isn't up says nothing
abbrev pub near_said : TrunkState → Saying → TrunkState
near_said t made = if is_some (peer_of t.link.first.end) then near_says t made else t

-- ---- what is given for what is heard

-- what is given to a side for what its RLNH end hands up
abbrev pub given_up : Up → List Given
given_up ups.Nothing = []
given_up (ups.Arrived from to note) = arrived from to note ∷ []
given_up (ups.Freed from to note) = freed from to note ∷ []
given_up (ups.Met inc name) = met inc name ∷ []
given_up (ups.Gone inc) = gone inc ∷ []
given_up (ups.Asked name) = asked_for name ∷ []
given_up ups.Bad = []

-- what is given to a side for a message that its RLNH end hears, where its tables are these
abbrev pub given_for_heard : RlnhTables → Heard → List Given
given_for_heard t heard = given_up (hears t heard).up

-- a side that was given these, the newest first
abbrev pub giving_all : List Given → SideRecord → SideRecord
giving_all given A = record A { now = record A.now { given = given ++ A.now.given } }

-- ---- an event at the first side

-- the first side goes up with session y: its RLNH end begins, and says INIT
abbrev pub near_up : TrunkState → Session → TrunkState
near_up t y = near_pumped t (after t.first.end begin_of) (going_up y t.first.kept)

-- the session of the first side is over, and session x begins: its RLNH end knows nothing
abbrev pub near_down : TrunkState → Session → TrunkState
near_down t x =
    record t { first = record { end = emptied t.first.end; kept = beginning x t.first.kept } }

-- a message of this reading came to the RLNH end of the first side
abbrev pub near_heard : TrunkState → Heard → TrunkState
near_heard t heard =
    near_pumped t (rlnh_input_of t.first.end heard).state
    (giving_all (given_for_heard t.first.end.tables heard) t.first.kept)

-- the link handed this up at the first side; a message has this reading
abbrev pub near_took : TrunkState → Heard → Handed → TrunkState
near_took t heard Nothing = t
near_took t heard (WentUp session peer) = near_up t peer
near_took t heard (WentDown session) = near_down t (next_session session)
near_took t heard (Got m) = near_heard t heard

-- the packet at place k of those in flight to the first side comes, and stays in flight or is gone
abbrev pub near_delivered : TrunkState → ℕ → Bool → Heard → TrunkState
near_delivered t k keep heard =
    near_took (with_link t (links.near_delivered t.link k keep)) heard
    (near_handed t.link (slice_get t.link.back k))

-- a tick handed this up at the first side
abbrev pub near_beat : TrunkState → TickedSide → TrunkState
near_beat t ticked.Stays = t
near_beat t (ticked.WentDown session) = near_down t (next_session session)

-- the first side is ticked
abbrev pub near_ticked : TrunkState → TrunkState
near_ticked t =
    near_beat (with_link t (links.near_ticked t.link))
    (ticked_as t.link.first.end.talk.mine (tick_of t.link.first.end).answer)

-- the first side boots again
abbrev pub near_restarted : TrunkState → ℕ → TrunkState
near_restarted t boot =
    near_down (with_link t (links.near_restarted t.link boot)) (first_session boot)

-- ---- what is handed up

-- what a trunk hands up of what an RLNH end hands up; Bad never comes within a trunk
abbrev pub told_up : Up → TrunkUp
told_up ups.Nothing = tells.Nothing
told_up (ups.Arrived from to note) = tells.Arrived from to note
told_up (ups.Freed from to note) = tells.Nothing
told_up (ups.Met inc name) = tells.Met inc name
told_up (ups.Gone inc) = tells.Gone inc
told_up (ups.Asked name) = tells.Asked name
told_up ups.Bad = tells.Nothing

-- what a trunk hands up of what its link hands up; a message has this reading, where the tables are
-- these
abbrev pub told_of : RlnhTables → Heard → Handed → TrunkUp
told_of t heard Nothing = tells.Nothing
told_of t heard (WentUp session peer) = tells.WentUp session peer
told_of t heard (WentDown session) = tells.WentDown session
told_of t heard (Got m) = told_up (hears t heard).up

-- a message that is handed up has this reading
abbrev pub IsReading : Handed → Heard → Type 0
IsReading Nothing heard = Unit {0}
IsReading (WentUp session peer) heard = Unit {0}
IsReading (WentDown session) heard = Unit {0}
IsReading (Got m) heard = IsRead m heard

-- ---- a trunk

-- the trunk with its sides exchanged
abbrev pub turned : TrunkState → TrunkState
turned t = record { link = links.turned t.link; first = t.second; second = t.first }

-- the trunk as it is seen from a side, which is the first then; twice is the trunk again
abbrev pub seen_from : Side → TrunkState → TrunkState
seen_from First t = t
seen_from Second t = turned t

-- a side above its link
abbrev pub side_of : Side → TrunkState → TrunkSide
side_of side t = (seen_from side t).first

-- the tables of a side's RLNH end
abbrev pub tables_of : Side → TrunkState → RlnhTables
tables_of side t = (side_of side t).end.tables

-- what is recorded of a side
abbrev pub kept_of : Side → TrunkState → SideRecord
kept_of side t = (side_of side t).kept

-- the packet at place k from a side comes to the other one, and stays in flight or is gone; where
-- it makes a message whole, that is read as this
abbrev pub delivered : Side → ℕ → Bool → Heard → TrunkState → TrunkState
delivered from k keep heard t =
    seen_from (other_of from) (near_delivered (seen_from (other_of from) t) k keep heard)

-- what the packet at place k from a side hands up at the other one
abbrev pub told_by : Side → ℕ → Heard → TrunkState → TrunkUp
told_by from k heard t =
    told_of (tables_of (other_of from) t) heard (links.handed_by from k t.link)

-- a side is ticked, and its session ends where the link is lost
abbrev pub ticked_at : Side → TrunkState → TrunkState
ticked_at side t = seen_from side (near_ticked (seen_from side t))

-- a side boots again
abbrev pub restarted_at : Side → ℕ → TrunkState → TrunkState
restarted_at side boot t = seen_from side (near_restarted (seen_from side t) boot)

-- the packet at place k from a side is lost
abbrev pub lost_from : Side → ℕ → TrunkState → TrunkState
lost_from from k t = with_link t (links.lost_from from k t.link)

-- the packets at places k and n from a side are exchanged
abbrev pub swapped_from : Side → ℕ → ℕ → TrunkState → TrunkState
swapped_from from k n t = with_link t (links.swapped_from from k n t.link)

-- ---- the calls

-- the RLNH end of a side says what this makes of its tables, where the side is up
abbrev pub said_at : Side → (RlnhTables → Saying) → TrunkState → TrunkState
said_at side call t =
    seen_from side (near_said (seen_from side t) (call (tables_of side t)))

-- a side publishes an endpoint, where it is up
abbrev pub published_at : Side → Inc → List ℕ → TrunkState → TrunkState
published_at side inc name t = said_at side (λ s. publish_of s inc name) t

-- an endpoint opened on a side's node: where the side is up and has noted the name, it is published
abbrev pub opened_at : Side → Inc → List ℕ → TrunkState → TrunkState
opened_at side inc name t = said_at side (λ s. opened_of s inc name) t

-- an endpoint closed on a side's node: where the side is up and has published it, it is unpublished
abbrev pub closed_at : Side → Inc → TrunkState → TrunkState
closed_at side inc t = said_at side (λ s. close_of s inc) t

-- a side asks for a name, where it is up
abbrev pub asked_at : Side → List ℕ → TrunkState → TrunkState
asked_at side name t = said_at side (λ s. query_of s name) t

-- a side sends a signal from an endpoint of this name to a peer that was met, where it is up
abbrev pub sent_at : Side → Inc → List ℕ → Inc → SigNote → TrunkState → TrunkState
sent_at side from name to signal t = said_at side (λ s. send_of s from name to signal) t
