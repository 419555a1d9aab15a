-- Heads and effects, spelled word by word: journal_text prints the same.
use Rattle.std.specs.Prelude.{ℕ, List, [], ◌∷◌, codes, decimal}
use Rattle.std.specs.List.{join_with_byte}
use Rattle.linx_base.specs.declared.name.Names.{Names}
use Rattle.linx_base.specs.SigNotes.{SigNote}
use Rattle.journal.specs.declared.head.Head.{Head}
use Rattle.journal.specs.declared.head.Head.TheVariants.{Open, Close, Send, Take, TakeNone, Waits}
use Rattle.journal.specs.declared.head.Head.TheVariants.{Hunt, Attach, Detach, Cut, Mend, Settle}
use Rattle.journal.specs.declared.head.Head.TheVariants.{Restart, Wire, Tick, Refused, Ended}
use Rattle.journal.specs.declared.effect.Effect.{Effect}
use Rattle.journal.specs.declared.effect.Effect.TheVariants.{Opened, Closed, Arrived, Found}
use Rattle.journal.specs.declared.effect.Effect.TheVariants.{Notified, Met, Gone, Up, Down}
use Rattle.journal_text.specs.Values.{Digest, data_text, halves_text, node_text, link_text, peer_text, filter_text}
use Rattle.journal_text.specs.Values.{maker_text, path_text, position_text, reference_text}
use Rattle.journal_text.specs.Values.{side_text, verdict_text, reason_text, sent_text}
use Rattle.journal_text.specs.Values.{detached_text, refusal_text}
use Rattle.journal_words.specs.declared.lines.Line.{Line}
use Rattle.journal_words.specs.declared.lines.Line.TheVariants.{Made, Happened}

-- a signal: its number and its data
abbrev pub signal_words : Digest → SigNote → List (List ℕ)
signal_words digest note = decimal note.number ∷ data_text digest note.bytes ∷ []

-- the words of a head
unfoldable pub head_words : Digest → Names → Head → List (List ℕ)
head_words digest names (Open name) = codes "open" ∷ name ∷ []
head_words digest names Close = codes "close" ∷ []
head_words digest names (Send peer note answer) =
    codes "send" ∷ peer_text names peer ∷ decimal note.number ∷ data_text digest note.bytes
    ∷ sent_text answer ∷ []
head_words digest names (Take filter at) =
    codes "take" ∷ filter_text filter ∷ position_text at ∷ []
head_words digest names (TakeNone filter) = codes "none" ∷ filter_text filter ∷ []
head_words digest names (Waits filter) = codes "waits" ∷ filter_text filter ∷ []
head_words digest names (Hunt path note) =
    codes "hunt" ∷ path_text names path ∷ signal_words digest note
head_words digest names (Attach peer note) =
    codes "attach" ∷ peer_text names peer ∷ signal_words digest note
head_words digest names (Detach reference answer) =
    codes "detach" ∷ reference_text reference.0 ∷ detached_text answer ∷ []
head_words digest names (Cut link) = codes "cut" ∷ link_text names link.0 ∷ []
head_words digest names (Mend link) = codes "mend" ∷ link_text names link.0 ∷ []
head_words digest names (Settle link) = codes "settle" ∷ link_text names link.0 ∷ []
head_words digest names (Restart node) = codes "restart" ∷ node_text names node.0 ∷ []
head_words digest names (Wire link side verdict) =
    codes "wire" ∷ link_text names link.0 ∷ side_text side ∷ verdict_text verdict ∷ []
head_words digest names (Tick link side) =
    codes "tick" ∷ link_text names link.0 ∷ side_text side ∷ []
head_words digest names (Refused reason) = codes "refused" ∷ refusal_text reason ∷ []
head_words digest names Ended = codes "ended" ∷ []

-- the words of an effect
unfoldable pub effect_words : Digest → Names → Effect → List (List ℕ)
effect_words digest names (Opened inc) = codes "opened" ∷ halves_text inc.0 ∷ []
effect_words digest names (Closed inc) = codes "closed" ∷ halves_text inc.0 ∷ []
effect_words digest names (Arrived inc peer note) =
    codes "arrived" ∷ halves_text inc.0 ∷ peer_text names peer ∷ signal_words digest note
effect_words digest names (Found inc peer note hunt) =
    codes "found" ∷ halves_text inc.0 ∷ peer_text names peer ∷ decimal note.number
    ∷ data_text digest note.bytes ∷ reference_text hunt ∷ []
effect_words digest names (Notified inc peer note reference reason) =
    codes "notified" ∷ halves_text inc.0 ∷ peer_text names peer ∷ decimal note.number
    ∷ data_text digest note.bytes ∷ reference_text reference.0 ∷ reason_text reason ∷ []
effect_words digest names (Met node peer name) =
    codes "met" ∷ node_text names node.0 ∷ peer_text names peer ∷ name ∷ []
effect_words digest names (Gone node peer) =
    codes "gone" ∷ node_text names node.0 ∷ peer_text names peer ∷ []
effect_words digest names (Up node link session other) =
    codes "up" ∷ node_text names node.0 ∷ link_text names link.0 ∷ halves_text session.0
    ∷ halves_text other.0 ∷ []
effect_words digest names (Down node link session) =
    codes "down" ∷ node_text names node.0 ∷ link_text names link.0 ∷ halves_text session.0 ∷ []

-- words with a space between each two
abbrev pub line_of : List (List ℕ) → List ℕ
line_of words = join_with_byte 32 words

-- the words of a line: a position, a maker and a head, or `+` and an effect
abbrev pub line_words : Digest → Names → Line → List (List ℕ)
line_words digest names (Made position by head) =
    decimal position ∷ maker_text by ∷ head_words digest names head
line_words digest names (Happened effect) = codes "+" ∷ effect_words digest names effect
