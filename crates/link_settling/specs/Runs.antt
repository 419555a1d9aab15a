-- What may happen to a link while it settles, and after how many ticks it is quiet.
use Rattle.std.specs.Prelude.{◌≡◌, ℕ, zero, suc, true, false, IsSome, List, [], ◌∷◌}
use Rattle.linx_base.specs.Frames.{IsMessage}
use Rattle.linx_base.specs.Sides.{other_of}
use Rattle.linx_base.specs.declared.frame.Message.{Message}
use Rattle.linx_base.specs.declared.identity.Side.{Side}
use Rattle.ethcm_end.specs.States.{peer_of}
use Rattle.carrier.specs.Events.{LinkState, delivered, half_of, is_quiet, offered_to, ticked_at}

-- something that may happen while nothing is lost or exchanged: the first packet from a side comes
-- to the other one, or a message is offered to a side
pub data Move : Type 0 where
  comes : Side → Move
  offers : Side → Message → Move

-- a move may be made: a message is offered only to a side that is up
abbrev pub MayBe : LinkState → Move → Type 0
MayBe v (comes from) = Unit {0}
MayBe v (offers side m) = IsSome (peer_of (half_of side v).end) × IsMessage m

-- what a move makes of the link; where no packet is in flight from a side, none comes
abbrev pub moved : LinkState → Move → LinkState
moved v (comes from) = delivered from 0 false v
moved v (offers side m) = offered_to side m v

-- moves may be made, one after the other
abbrev pub MayAllBe : LinkState → List Move → Type 0
MayAllBe v [] = Unit {0}
MayAllBe v (m ∷ ms) = MayBe v m × MayAllBe (moved v m) ms

-- what moves make of a link, one after the other
abbrev pub moved_all : LinkState → List Move → LinkState
moved_all v [] = v
moved_all v (m ∷ ms) = moved_all (moved v m) ms

-- nothing is in flight
abbrev pub IsEmpty : LinkState → Type 0
IsEmpty v = (v.there ≡ []) × (v.back ≡ [])

-- ONCE NOTHING IS IN FLIGHT: whatever is offered, and once all packets have come, this holds
abbrev pub OnceEmpty : LinkState → (LinkState → Type 0) → Type 0
OnceEmpty v holds =
    (moves : List Move) → MayAllBe v moves → IsEmpty (moved_all v moves)
    → holds (moved_all v moves)

-- A LINK SETTLES IN N TICKS, the next of which is of this side: once nothing is in flight the side
-- may tick, then, once nothing is again, the other side may, and so on; after n ticks, once nothing
-- is in flight, the link is quiet
unfoldable pub SettlesIn : ℕ → Side → LinkState → Type 0
SettlesIn zero side v = OnceEmpty v (λ w. is_quiet w ≡ true)
SettlesIn (suc n) side v =
    OnceEmpty v (λ w. SettlesIn n (other_of side) (ticked_at side w))

-- A LINK SETTLES IN N ROUNDS, in each of which both sides tick once, whichever is the first this
-- time: once nothing is in flight a side may tick, then, once nothing is again, the other side may,
-- and so on; after n rounds, once nothing is in flight, the link is quiet
unfoldable pub SettlesInRounds : ℕ → LinkState → Type 0
SettlesInRounds zero v = OnceEmpty v (λ w. is_quiet w ≡ true)
SettlesInRounds (suc n) v =
    OnceEmpty v (λ w. (side : Side) → OnceEmpty (ticked_at side w) (λ x.
    SettlesInRounds n (ticked_at (other_of side) x)))
