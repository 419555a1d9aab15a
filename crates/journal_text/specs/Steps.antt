-- The lines of a step.
use Rattle.std.specs.Prelude.{ℕ, ◌++◌, List, [], flat_map, codes, decimal, Option, Some, None}
use Rattle.linx_base.specs.declared.name.Names.{Names}
use Rattle.journal.specs.declared.head.Head.{Head}
use Rattle.journal.specs.declared.head.Head.TheVariants.{Open, Close, Send, Take, TakeNone, Waits}
use Rattle.journal.specs.declared.head.Head.TheVariants.{Hunt, Attach, Detach, Cut, Mend, Settle}
use Rattle.journal.specs.declared.head.Head.TheVariants.{Restart, Wire, Tick, Refused, Ended}
use Rattle.journal.specs.declared.effect.Effect.{Effect}
use Rattle.journal.specs.declared.effect.Effect.TheVariants.{Opened, Closed, Arrived, Found}
use Rattle.journal.specs.declared.effect.Effect.TheVariants.{Notified, Met, Gone, Up, Down}
use Rattle.journal.specs.declared.effect.Step.{Step}
use Rattle.journal.specs.Logs.{Log, step_at}
use Rattle.journal_text.specs.Values.{Digest, halves_text, node_text, link_text, peer_text}
use Rattle.journal_text.specs.Values.{peer_signal_text, filter_text, path_text, signal_text}
use Rattle.journal_text.specs.Values.{maker_text, position_text, reference_text, side_text}
use Rattle.journal_text.specs.Values.{verdict_text, reason_text, sent_text, detached_text}
use Rattle.journal_text.specs.Values.{refusal_text}

-- what a step did
unfoldable pub head_text : Digest → Names → Head → List ℕ
head_text digest names (Open name) = codes "open " ++ name
head_text digest names Close = codes "close"
head_text digest names (Send peer note answer) =
    codes "send " ++ peer_signal_text digest names peer note ++ codes " " ++ sent_text answer
head_text digest names (Take filter at) =
    codes "take " ++ filter_text filter ++ codes " " ++ position_text at
head_text digest names (TakeNone filter) = codes "none " ++ filter_text filter
head_text digest names (Waits filter) = codes "waits " ++ filter_text filter
head_text digest names (Hunt path note) =
    codes "hunt " ++ path_text names path ++ codes " " ++ signal_text digest note
head_text digest names (Attach peer note) = codes "attach " ++ peer_signal_text digest names peer note
head_text digest names (Detach reference answer) =
    codes "detach " ++ reference_text reference.0 ++ codes " " ++ detached_text answer
head_text digest names (Cut link) = codes "cut " ++ link_text names link.0
head_text digest names (Mend link) = codes "mend " ++ link_text names link.0
head_text digest names (Settle link) = codes "settle " ++ link_text names link.0
head_text digest names (Restart node) = codes "restart " ++ node_text names node.0
head_text digest names (Wire link side verdict) =
    codes "wire " ++ link_text names link.0 ++ codes " " ++ side_text side ++ codes " "
    ++ verdict_text verdict
head_text digest names (Tick link side) =
    codes "tick " ++ link_text names link.0 ++ codes " " ++ side_text side
head_text digest names (Refused reason) = codes "refused " ++ refusal_text reason
head_text digest names Ended = codes "ended"

-- what happened in a step
unfoldable pub effect_text : Digest → Names → Effect → List ℕ
effect_text digest names (Opened inc) = codes "opened " ++ halves_text inc.0
effect_text digest names (Closed inc) = codes "closed " ++ halves_text inc.0
effect_text digest names (Arrived inc peer note) =
    codes "arrived " ++ halves_text inc.0 ++ codes " " ++ peer_signal_text digest names peer note
effect_text digest names (Found inc peer note hunt) =
    codes "found " ++ halves_text inc.0 ++ codes " " ++ peer_signal_text digest names peer note
    ++ codes " "
    ++ reference_text hunt
effect_text digest names (Notified inc peer note reference reason) =
    codes "notified " ++ halves_text inc.0 ++ codes " " ++ peer_signal_text digest names peer note
    ++ codes " "
    ++ reference_text reference.0 ++ codes " " ++ reason_text reason
effect_text digest names (Met node peer name) =
    codes "met " ++ node_text names node.0 ++ codes " " ++ peer_text names peer ++ codes " " ++ name
effect_text digest names (Gone node peer) =
    codes "gone " ++ node_text names node.0 ++ codes " " ++ peer_text names peer
effect_text digest names (Up node link session other) =
    codes "up " ++ node_text names node.0 ++ codes " " ++ link_text names link.0 ++ codes " "
    ++ halves_text session.0 ++ codes " " ++ halves_text other.0
effect_text digest names (Down node link session) =
    codes "down " ++ node_text names node.0 ++ codes " " ++ link_text names link.0 ++ codes " "
    ++ halves_text session.0

-- the line of an effect
unfoldable pub effect_line : Digest → Names → Effect → List ℕ
effect_line digest names effect = codes "+ " ++ effect_text digest names effect ++ codes "\n"

-- a step at a position: its position, its maker and its head in one line, and a line for each
-- effect
unfoldable pub step_text : Digest → Names → ℕ → Step → List ℕ
step_text digest names position s =
    decimal position ++ codes " " ++ maker_text s.by ++ codes " " ++ head_text digest names s.head
    ++ codes "\n"
    ++ flat_map (effect_line digest names) s.effects

-- the lines of a step, if there is one
abbrev pub text_at_step : Digest → Names → ℕ → Option Step → List ℕ
text_at_step digest names position None = []
text_at_step digest names position (Some s) = step_text digest names position s

-- the lines of the step at a position of a journal
abbrev pub step_text_at : Digest → Log → ℕ → List ℕ
step_text_at digest log position = text_at_step digest log.names position (step_at log.steps position)
