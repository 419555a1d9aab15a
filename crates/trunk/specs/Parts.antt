-- The parts of a call: what an RLNH end says stays in it at first, and is offered to the link then.
use Rattle.std.specs.Prelude.{List}
use Rattle.linx_base.specs.Both.{Both}
use Rattle.linx_base.specs.declared.frame.Message.{Message}
use Rattle.linx_base.specs.declared.identity.Session.{Session}
use Rattle.linx_base.specs.declared.identity.Side.{Side}
use Rattle.carrier.specs.Events.{LinkState}
use Rattle.carrier.specs.Events as links
use Rattle.carrier.specs.Spelling.{HasOnlyGrownFrom}
use Rattle.trunk_record.specs.Changes.{beginning, going_up}
use Rattle.trunk_record.specs.Changes as changes
use Rattle.rlnh_end.specs.declared.heard.Heard.{Heard}
use Rattle.rlnh_end.specs.States.{emptied}
use Rattle.rlnh_end.specs.Calls.{Saying, after, begin_of}
use Rattle.rlnh_end.specs.Reactions.{rlnh_input_of}
use Rattle.rlnh_laws.specs.Meanings.{saids}
use Rattle.trunk.specs.Events.{TrunkSide, TrunkState, giving_all, given_for_heard, near_offers}
use Rattle.trunk.specs.Events.{seen_from, taken_out}

-- ---- a side above its link

-- a side says this, which is recorded
abbrev pub side_says : TrunkSide → Saying → TrunkSide
side_says s made =
    record { end = after s.end made; kept = changes.saying (saids made.says) s.kept }

-- a side goes up with session y
abbrev pub side_begins : TrunkSide → Session → TrunkSide
side_begins s y = record { end = after s.end begin_of; kept = going_up y s.kept }

-- the session of a side is over, and session x begins
abbrev pub side_ends : TrunkSide → Session → TrunkSide
side_ends s x = record { end = emptied s.end; kept = beginning x s.kept }

-- a message of this reading came to a side
abbrev pub side_hears : TrunkSide → Heard → TrunkSide
side_hears s heard =
    record {
      end = (rlnh_input_of s.end heard).state;
      kept = giving_all (given_for_heard s.end.tables heard) s.kept;
    }

-- ---- a trunk

-- the first side of a trunk becomes this one
abbrev pub near_with : TrunkState → TrunkSide → TrunkState
near_with t s = record t { first = s }

-- a trunk with this in place of one of its sides
abbrev pub with_side : Side → TrunkState → TrunkSide → TrunkState
with_side side t s = seen_from side (near_with (seen_from side t) s)

-- what the RLNH end of the first side has to say is offered to the link, in order
abbrev pub near_sends : TrunkState → TrunkState
near_sends t =
    record t {
      link = near_offers t.link t.first.end.out;
      first = record t.first { end = taken_out t.first.end };
    }

-- what the RLNH end of a side has to say is offered to the link
abbrev pub sends_at : Side → TrunkState → TrunkState
sends_at side t = seen_from side (near_sends (seen_from side t))

-- messages are offered to a side of a link, one after the other
abbrev pub offers_to : Side → List Message → LinkState → LinkState
offers_to side ms v = links.seen_from side (near_offers (links.seen_from side v) ms)

-- since the event began no packet from this side of a trunk was lost or exchanged
abbrev pub HasOnlyGrownAt : Side → Both TrunkState → Type 0
HasOnlyGrownAt from t = HasOnlyGrownFrom from (record { was = t.was.link; is = t.is.link })
