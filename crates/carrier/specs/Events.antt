-- What each event makes of the two sides of a link and of what is in flight between them.
use Rattle.std.specs.Prelude.{ℕ, ◌==◌, ◌&&◌, Bool, true, false, not, Option, None, Some, List, []}
use Rattle.std.specs.Prelude.{◌∷◌, ◌++◌, length, slice_get}
use Rattle.std.specs.List.{remove, swap}
use Rattle.linx_base.specs.declared.identity.Session.{Session}
use Rattle.linx_base.specs.declared.identity.Side.{Side}
use Rattle.linx_base.specs.declared.identity.Side.TheVariants.{First, Second}
use Rattle.linx_base.specs.declared.frame.Message.{Message}
use Rattle.linx_base.specs.Sides.{other_of}
use Rattle.ethcm_headers.specs.declared.packets.Packet.{Packet}
use Rattle.ethcm_end.specs.declared.answers.Input.{Input}
use Rattle.ethcm_end.specs.declared.answers.Input.TheVariants.{Nothing, WentUp, WentDown, Got}
use Rattle.ethcm_end.specs.declared.answers.Ticked.{Ticked}
use Rattle.ethcm_end.specs.declared.answers.Ticked.TheVariants as ticks
use Rattle.ethcm_end.specs.States.{EndState, Reaction, has_work_in}
use Rattle.ethcm_end.specs.Rules.{input_of, offer_of, restart_of, tick_of}
use Rattle.carrier.specs.declared.handed.Handed.{Handed}
use Rattle.carrier.specs.declared.handed.Handed.TheVariants as handed
use Rattle.carrier.specs.declared.handed.TickedSide.{TickedSide}
use Rattle.carrier.specs.declared.handed.TickedSide.TheVariants as ticked
use Rattle.carrier.specs.Records.{HalfState, current, new_half}
use Rattle.ethcm_session.specs.Table.{HasNext}

-- ---- one side

-- all packets of an end have gone out
abbrev pub drained : EndState → EndState
drained s = record s { out = [] }

-- a side whose session goes on with its end in this state
abbrev pub with_end : HalfState → EndState → HalfState
with_end h s = record h { end = s }

-- a side whose session has ended and is recorded, and whose next one begins
abbrev pub with_next : HalfState → EndState → HalfState
with_next h s = record { end = s; offered = []; handed = []; past = current h ∷ h.past }

-- a side at which a message was handed up, with its end in this state
abbrev pub with_handed : HalfState → EndState → Message → HalfState
with_handed h s m = record h { end = s; handed = h.handed ++ m ∷ [] }

-- a side to which a message was offered, with its end in this state
abbrev pub with_offered : HalfState → EndState → Message → HalfState
with_offered h s m = record h { end = s; offered = h.offered ++ m ∷ [] }

-- the end came to this state, and answered this to a packet
abbrev pub recorded : HalfState → EndState → Input → HalfState
recorded h s Nothing = with_end h s
recorded h s WentUp = with_end h s
recorded h s WentDown = with_next h s
recorded h s (Got m) = with_handed h s m

-- the end came to this state, and answered this to a tick
abbrev pub recorded_tick : HalfState → EndState → Ticked → HalfState
recorded_tick h s ticks.Stays = with_end h s
recorded_tick h s ticks.WentDown = with_next h s

-- what is handed up of a packet of session src, to a session
abbrev pub handed_as : Session → Session → Input → Handed
handed_as mine src Nothing = handed.Nothing
handed_as mine src WentUp = handed.WentUp mine src
handed_as mine src WentDown = handed.WentDown mine
handed_as mine src (Got m) = handed.Got m

-- what a tick tells, with the session that went down
abbrev pub ticked_as : Session → Ticked → TickedSide
ticked_as mine ticks.Stays = ticked.Stays
ticked_as mine ticks.WentDown = ticked.WentDown mine

-- ---- a link, seen from one of its sides

-- both sides of a link, and the packets in flight from the first to the second and back, the oldest
-- first
pub record LinkState : Type 0 where
  pub first : HalfState
  pub second : HalfState
  pub there : List Packet
  pub back : List Packet

-- a link before anything happened
abbrev pub new_link : ℕ → ℕ → LinkState
new_link window piece =
    record {
      first = new_half window piece;
      second = new_half window piece;
      there = [];
      back = [];
    }

-- the first side becomes this one, and sends these packets
abbrev pub near_changed : LinkState → HalfState → List Packet → LinkState
near_changed v h out = record v { first = h; there = v.there ++ out }

-- a packet comes to the first side
abbrev pub near_received : LinkState → Reaction Input → LinkState
near_received v r = near_changed v (recorded v.first (drained r.state) r.answer) r.state.out

-- a packet stays in its place, or is gone
abbrev pub left_after : Bool → ℕ → List Packet → List Packet
left_after true k packets = packets
left_after false k packets = remove packets k

-- this packet, at place k, comes to the first side
abbrev pub near_took : LinkState → ℕ → Bool → Option Packet → LinkState
near_took v k keep None = v
near_took v k keep (Some p) =
    near_received (record v { back = left_after keep k v.back }) (input_of v.first.end p)

-- the packet at place k of those on their way back comes to the first side
abbrev pub near_delivered : LinkState → ℕ → Bool → LinkState
near_delivered v k keep = near_took v k keep (slice_get v.back k)

-- what is handed up of a packet that comes to the first side
abbrev pub near_handed : LinkState → Option Packet → Handed
near_handed v None = handed.Nothing
near_handed v (Some p) = handed_as v.first.end.talk.mine p.src (input_of v.first.end p).answer

-- the link once the end of its first side reacted so to a tick
abbrev pub near_beat : LinkState → Reaction Ticked → LinkState
near_beat v r = near_changed v (recorded_tick v.first (drained r.state) r.answer) r.state.out

-- the link once its first side was ticked: what the end sends then is in flight
abbrev pub near_ticked : LinkState → LinkState
near_ticked v = near_beat v (tick_of v.first.end)

-- a message is offered to the first side
abbrev pub near_sent : LinkState → EndState → Message → LinkState
near_sent v s m = near_changed v (with_offered v.first (drained s) m) s.out

-- the link once a message was offered to its first side: what the end sends then is in flight
abbrev pub near_offered : LinkState → Message → LinkState
near_offered v m = near_sent v (offer_of v.first.end m) m

-- the first side boots again
abbrev pub near_restarted : LinkState → ℕ → LinkState
near_restarted v boot = record v { first = with_next v.first (restart_of v.first.end boot) }

-- the packet at place k from the first side is lost
abbrev pub near_lost : LinkState → ℕ → LinkState
near_lost v k = record v { there = remove v.there k }

-- the packets at places k and n from the first side are exchanged
abbrev pub near_swapped : LinkState → ℕ → ℕ → LinkState
near_swapped v k n = record v { there = swap v.there k n }

-- ---- a link

-- the link with its sides exchanged
abbrev pub turned : LinkState → LinkState
turned v = record { first = v.second; second = v.first; there = v.back; back = v.there }

-- the link as it is seen from a side, which is the first then; twice is the link again
abbrev pub seen_from : Side → LinkState → LinkState
seen_from First v = v
seen_from Second v = turned v

-- a side, and the packets in flight from it
abbrev pub half_of : Side → LinkState → HalfState
half_of side v = (seen_from side v).first

-- the session of a side isn't the last one of its boot
abbrev pub HasNextAt : Side → LinkState → Type 0
HasNextAt side v = HasNext (half_of side v).end.talk.mine

-- the packets in flight from a side, the oldest first
abbrev pub flight_from : Side → LinkState → List Packet
flight_from side v = (seen_from side v).there

-- the packet at place k from a side comes to the other one, and stays in its place or is gone
abbrev pub delivered : Side → ℕ → Bool → LinkState → LinkState
delivered from k keep v =
    seen_from (other_of from) (near_delivered (seen_from (other_of from) v) k keep)

-- what the packet at place k from a side hands up at the other one
abbrev pub handed_by : Side → ℕ → LinkState → Handed
handed_by from k v = near_handed (seen_from (other_of from) v) (slice_get (flight_from from v) k)

-- a side is ticked
abbrev pub ticked_at : Side → LinkState → LinkState
ticked_at side v = seen_from side (near_ticked (seen_from side v))

-- what a tick of a side hands up there
abbrev pub link_told_by : Side → LinkState → TickedSide
link_told_by side v =
    let end : EndState = (half_of side v).end in
    ticked_as end.talk.mine (tick_of end).answer

-- a message is offered to a side
abbrev pub offered_to : Side → Message → LinkState → LinkState
offered_to side m v = seen_from side (near_offered (seen_from side v) m)

-- a side boots again
abbrev pub restarted_at : Side → ℕ → LinkState → LinkState
restarted_at side boot v = seen_from side (near_restarted (seen_from side v) boot)

-- the packet at place k from a side is lost
abbrev pub lost_from : Side → ℕ → LinkState → LinkState
lost_from from k v = seen_from from (near_lost (seen_from from v) k)

-- the packets at places k and n from a side are exchanged
abbrev pub swapped_from : Side → ℕ → ℕ → LinkState → LinkState
swapped_from from k n v = seen_from from (near_swapped (seen_from from v) k n)

-- nothing is in flight, and neither end has work
abbrev pub is_quiet : LinkState → Bool
is_quiet v =
    (length v.there == 0 && length v.back == 0)
    && (not (has_work_in v.first.end) && not (has_work_in v.second.end))
