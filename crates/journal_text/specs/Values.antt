-- How each value is spelled.
use Rattle.std.specs.Prelude.{ℕ, zero, suc, ◌==◌, ◌++◌, nat_le, ◌&&◌, List, [], ◌∷◌, length}
use Rattle.std.specs.Prelude.{flat_map, codes, decimal, slice_get, Option, Some, None}
use Rattle.std.specs.Prelude.{if◌then◌else◌, take}
use Rattle.hex.specs.Hex.{encode_lower}
use Rattle.linx_base.specs.Numbers.{high_half, low_half}
use Rattle.linx_base.specs.declared.identity.ItemAt.{ItemAt}
use Rattle.linx_base.specs.declared.identity.Side.{Side}
use Rattle.linx_base.specs.declared.identity.Side.TheVariants.{First, Second}
use Rattle.linx_base.specs.declared.identity.Peer.{Peer}
use Rattle.linx_base.specs.declared.identity.Peer.TheVariants.{Here, There}
use Rattle.linx_base.specs.declared.frame.Verdict.{Verdict}
use Rattle.linx_base.specs.declared.frame.Verdict.TheVariants.{Deliver, Lose, Repeat, Swap}
use Rattle.linx_base.specs.declared.name.Names.{Names}
use Rattle.linx_base.specs.declared.name.Path.{Path}
use Rattle.linx_base.specs.declared.name.Path.TheVariants.{Local, Over}
use Rattle.linx_base.specs.SigNotes.{SigNote}
use Rattle.linx_base.specs.declared.signal.Reason.{Reason}
use Rattle.linx_base.specs.declared.signal.Reason.TheVariants.{Closed, Lost, Dead as DeadAlready}
use Rattle.sigsel.specs.declared.sigsel.Sigsel.{Sigsel}
use Rattle.sigsel.specs.declared.sigsel.Sigsel.TheVariants.{Any, Only, Not}
use Rattle.journal.specs.declared.by.By.{By}
use Rattle.journal.specs.declared.by.By.TheVariants.{Actor, Pump}
use Rattle.journal.specs.declared.head.SentTo.{SentTo}
use Rattle.journal.specs.declared.head.SentTo.TheVariants.{Queued, Link, Dead}
use Rattle.journal.specs.declared.head.Detached.{Detached}
use Rattle.journal.specs.declared.head.Detached.TheVariants.{Pending, Queued as QueuedNotice}
use Rattle.journal.specs.declared.head.Detached.TheVariants.{None as Neither}
use Rattle.journal.specs.declared.head.Refusal.{Refusal}
use Rattle.journal.specs.declared.head.Refusal.TheVariants.{NotOpen, IsOpen, NoPeer, NoSignal}
use Rattle.journal.specs.declared.head.Refusal.TheVariants.{NoRef}

-- a number of 64 bits as its two halves: an incarnation as `node.k`, a session as `boot.count`
unfoldable pub halves_text : ℕ → List ℕ
halves_text n = decimal (high_half n) ++ codes "." ++ decimal (low_half n)

-- a name, or `?` where there is none
abbrev pub name_or_mark : Option (List ℕ) → List ℕ
name_or_mark None = codes "?"
name_or_mark (Some name) = name

-- the name of a number, which counts from 1
abbrev pub nth_name : List (List ℕ) → ℕ → Option (List ℕ)
nth_name names zero = None
nth_name names (suc k) = slice_get names k

-- a node by its name
unfoldable pub node_text : Names → ℕ → List ℕ
node_text names node = name_or_mark (nth_name names.nodes node)

-- a link by its name
unfoldable pub link_text : Names → ℕ → List ℕ
link_text names link = name_or_mark (nth_name names.links link)

-- an endpoint of the own node as its incarnation; one over a link as `LINK:SESSION:INC`
unfoldable pub peer_text : Names → Peer → List ℕ
peer_text names (Here inc) = halves_text inc.0
peer_text names (There link session inc) =
    link_text names link.0 ++ codes ":" ++ halves_text session.0 ++ codes ":" ++ halves_text inc.0

-- what is printed in the place of more than 32 data bytes, as a function of them: SHA-256 where a
-- run is printed
abbrev pub Digest : Type 0
Digest = List ℕ → List ℕ

-- the first 32 bytes, which are printed where data stand in for others that have them as their
-- SHA-256
abbrev pub first_bytes : Digest
first_bytes bytes = take 32 bytes

-- the digest of more than 32 data bytes: their number, `:` and the digest
unfoldable pub digest_text : Digest → List ℕ → List ℕ
digest_text digest bytes = decimal (length bytes) ++ codes ":" ++ encode_lower (digest bytes)

-- data: `-` for none, hexadecimal for 1 to 32 bytes, a digest for more
unfoldable pub data_text : Digest → List ℕ → List ℕ
data_text digest bytes =
    if length bytes == 0 then codes "-"
    else if nat_le (length bytes) 32 then encode_lower bytes else digest_text digest bytes

-- a signal: its number and its data
unfoldable pub signal_text : Digest → SigNote → List ℕ
signal_text digest note = decimal note.number ++ codes " " ++ data_text digest note.bytes

-- a peer and a signal
unfoldable pub peer_signal_text : Digest → Names → Peer → SigNote → List ℕ
peer_signal_text digest names peer note = peer_text names peer ++ codes " " ++ signal_text digest note

-- a further number of a list
abbrev pub further_text : ℕ → List ℕ
further_text n = codes "," ++ decimal n

-- numbers with a comma between each two
unfoldable pub numbers_text : List ℕ → List ℕ
numbers_text [] = []
numbers_text (n ∷ rest) = decimal n ++ flat_map further_text rest

-- a filter: `any`, `only:7,8` or `not:8`
unfoldable pub filter_text : Sigsel → List ℕ
filter_text Any = codes "any"
filter_text (Only listed) = codes "only:" ++ numbers_text listed
filter_text (Not listed) = codes "not:" ++ numbers_text listed

-- a path: a name, or `LINK/NAME`
unfoldable pub path_text : Names → Path → List ℕ
path_text names (Local name) = name
path_text names (Over link name) = link_text names link.0 ++ codes "/" ++ name

-- a maker: `A` and the actor's number, `P` and the link's
unfoldable pub maker_text : By → List ℕ
maker_text (Actor k) = codes "A" ++ decimal k
maker_text (Pump link) = codes "P" ++ decimal link.0

-- an item's position: its step, and the place of its effect in it
unfoldable pub position_text : ItemAt → List ℕ
position_text at = decimal at.step ++ codes "." ++ decimal at.place

-- a reference: the position of the step that attached or hunted
unfoldable pub reference_text : ℕ → List ℕ
reference_text step = codes "@" ++ decimal step

-- a side of a link: a direction is that of its sender
abbrev pub side_text : Side → List ℕ
side_text First = codes ">"
side_text Second = codes "<"

-- the number of a swap, `?` where it isn't 1 to 9
abbrev pub swapped_text : ℕ → List ℕ
swapped_text n = if nat_le 1 n && nat_le n 9 then decimal n else codes "?"

-- a verdict
abbrev pub verdict_text : Verdict → List ℕ
verdict_text Deliver = codes "deliver"
verdict_text Lose = codes "lose"
verdict_text Repeat = codes "repeat"
verdict_text (Swap n) = codes "swap" ++ swapped_text n

-- why a holder was notified
abbrev pub reason_text : Reason → List ℕ
reason_text Closed = codes "closed"
reason_text Lost = codes "lost"
reason_text DeadAlready = codes "dead"

-- what became of a signal that was sent
abbrev pub sent_text : SentTo → List ℕ
sent_text Queued = codes "queued"
sent_text Link = codes "link"
sent_text Dead = codes "dead"

-- what a detach did
abbrev pub detached_text : Detached → List ℕ
detached_text Pending = codes "pending"
detached_text QueuedNotice = codes "queued"
detached_text Neither = codes "none"

-- why an event was refused
abbrev pub refusal_text : Refusal → List ℕ
refusal_text (NotOpen at) = codes "not-open"
refusal_text (IsOpen inc) = codes "is-open"
refusal_text NoPeer = codes "no-peer"
refusal_text NoSignal = codes "no-signal"
refusal_text NoRef = codes "no-ref"
