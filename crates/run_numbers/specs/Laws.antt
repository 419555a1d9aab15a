-- How many numbers a side of a link takes, and that they don't run out.
use Rattle.std.specs.Prelude.{ℕ, ◌+◌, ◌*◌, ◌≡◌, ◌≤◌, ◌<◌, Bool, List, [], ◌∷◌, length}
use Rattle.linx_base.specs.Numbers.{boot_of, count_of}
use Rattle.linx_base.specs.Sides.{other_of}
use Rattle.linx_base.specs.declared.frame.Frame.{Frame}
use Rattle.linx_base.specs.declared.identity.LinkNo.{LinkNo}
use Rattle.linx_base.specs.declared.identity.Side.{Side}
use Rattle.fragmenter.specs.Streams.{frames_of}
use Rattle.rlnh_end.specs.declared.heard.Heard.{Heard}
use Rattle.carrier.specs.Events.{HasNextAt, LinkState, half_of, handed_by}
use Rattle.carrier.specs.Keeping.{KeepsLink}
use Rattle.carrier.specs.Records.{HalfState}
use Rattle.journal.specs.Logs.{step_limit}
use Rattle.journal.specs.Shapes.{Shape}
use Rattle.journal.specs.declared.effect.Step.{Step}
use Rattle.link_laws.specs.Ends.{IsLinkOf, node_at}
use Rattle.trunk.specs.Events.{HasNumbersLeft, IsReading, TrunkState, asked_at, delivered}
use Rattle.trunk_moves.specs.Packets.{names_hunted}
use Rattle.trunk_moves.specs.Steps.{IsBoundedTrunkRun}
use Rattle.trunk_moves.specs.Trunks.{RunTrunks}

-- ---- a link

-- the numbers that the session of a side has given to frames: those that are acknowledged, and
-- those of the frames that aren't
abbrev pub numbers_given : HalfState → ℕ
numbers_given h = h.end.tx.base + length h.end.tx.frames

-- the frames of the messages that were offered in the session of a side
abbrev pub frames_offered : HalfState → List Frame
frames_offered h = frames_of h.end.piece h.offered

-- a side has given one number to each frame of the messages that were offered to it, and no more;
-- and a message has at most 1,024 frames
pub record NumbersFrames (h : HalfState) : Type 0 where
  pub each : numbers_given h ≡ length (frames_offered h)
  pub few : length (frames_offered h) ≤ length h.offered * 1024

-- EACH FRAME HAS ONE NUMBER, at each side, whatever happened to the link
abbrev pub FramesAreNumbered : Type 0
FramesAreNumbered = (side : Side) (v : LinkState) → KeepsLink v → NumbersFrames (half_of side v)

-- ---- a run

-- WHAT A SIDE HAS TAKEN OF ITS NUMBERS after so many steps
pub record TakesFew (steps : ℕ) (h : HalfState) : Type 0 where
  -- in its session two messages a step, and so two times 1,024 numbers
  pub messages : length h.offered ≤ 2 * steps
  pub numbers : numbers_given h ≤ 2048 * steps
  -- one session a step beside the first one of the boot, and one boot a step beside the first
  pub sessions : count_of h.end.talk.mine ≤ 1 + steps
  pub boots : boot_of h.end.talk.mine ≤ 1 + steps

-- EVERY RUN TAKES FEW, on each side of each link
abbrev pub RunsTakeFew : Type 0
RunsTakeFew = (shape : Shape) (P : List Step) (trunks : RunTrunks)
    → IsBoundedTrunkRun shape P trunks → (l : LinkNo) → IsLinkOf shape l → (side : Side)
    → TakesFew (length P) (half_of side (trunks l.0).link)

-- ---- what the next step finds

-- the numbers that an event asks for at a side
pub record GrantsNumbers (side : Side) (t : TrunkState) : Type 0 where
  pub frames : HasNumbersLeft side t
  pub sessions : HasNextAt side t.link

-- a side has numbers left for each of these questions, asked one after the other, and for one event
-- more
abbrev pub HasNumbersToAsk : Side → List (List ℕ) → TrunkState → Type 0
HasNumbersToAsk side [] t = HasNumbersLeft side t
HasNumbersToAsk side (name ∷ names) t =
    HasNumbersLeft side t × HasNumbersToAsk side names (asked_at side name t)

-- A PACKET from a side has come to the other one, on node n: it has numbers left to ask for each
-- name that is hunted over the link, or to answer
abbrev pub GrantsNumbersThen : List Step → ℕ → LinkNo → Side → TrunkState → Type 0
GrantsNumbersThen P n l from t = (keep : Bool) (heard : Heard)
    → IsReading (handed_by from 0 t.link) heard
    → HasNumbersToAsk (other_of from) (names_hunted P n l) (delivered from 0 keep heard t)

-- EVERY RUN THAT HAS ROOM FOR A STEP HAS THE NUMBERS FOR IT, on each side of each link
abbrev pub RunsHaveNumbers : Type 0
RunsHaveNumbers = (shape : Shape) (P : List Step) (trunks : RunTrunks)
    → IsBoundedTrunkRun shape P trunks → length P < step_limit → (l : LinkNo) → IsLinkOf shape l
    → (from : Side) → GrantsNumbers from (trunks l.0)
    × GrantsNumbersThen P (node_at shape l (other_of from)) l from (trunks l.0)
