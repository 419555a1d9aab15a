-- Which values are read: those that their spelling shows whole.
use Rattle.std.specs.Prelude.{◌≡◌, ℕ, ◌-◌, ◌<◌, ◌≤◌, true, List, length, drop, replicate}
use Rattle.std.specs.Prelude.{Some, get_or}
use Rattle.std.specs.List.{list_all}
use Rattle.linx_base.specs.Content.{data_limit}
use Rattle.linx_base.specs.NameText.{is_name}
use Rattle.linx_base.specs.Verdicts.{fits_verdict}
use Rattle.linx_base.specs.declared.frame.Verdict.{Verdict}
use Rattle.linx_base.specs.declared.identity.ItemAt.{ItemAt}
use Rattle.linx_base.specs.declared.identity.Peer.{Peer}
use Rattle.linx_base.specs.declared.identity.Peer.TheVariants.{Here, There}
use Rattle.linx_base.specs.declared.name.Names.{Names}
use Rattle.linx_base.specs.declared.name.Path.{Path}
use Rattle.linx_base.specs.declared.name.Path.TheVariants.{Local, Over}
use Rattle.linx_base.specs.SigNotes.{SigNote}
use Rattle.sigsel.specs.declared.sigsel.Sigsel.{Sigsel}
use Rattle.sigsel.specs.declared.sigsel.Sigsel.TheVariants.{Any, Only, Not}
use Rattle.journal.specs.declared.by.By.{By}
use Rattle.journal.specs.declared.by.By.TheVariants.{Actor, Pump}
use Rattle.journal.specs.declared.head.Refusal.{Refusal}
use Rattle.journal.specs.declared.head.Refusal.TheVariants.{NotOpen, IsOpen, NoPeer, NoSignal}
use Rattle.journal.specs.declared.head.Refusal.TheVariants.{NoRef}
use Rattle.journal.specs.declared.head.Head.{Head}
use Rattle.journal.specs.declared.head.Head.TheVariants.{Open, Close, Send, Take, TakeNone, Waits}
use Rattle.journal.specs.declared.head.Head.TheVariants.{Hunt, Attach, Detach, Cut, Mend, Settle}
use Rattle.journal.specs.declared.head.Head.TheVariants.{Restart, Wire, Tick, Refused, Ended}
use Rattle.journal.specs.declared.effect.Effect.{Effect}
use Rattle.journal.specs.declared.effect.Effect.TheVariants.{Opened, Closed, Arrived, Found}
use Rattle.journal.specs.declared.effect.Effect.TheVariants.{Notified, Met, Gone, Up, Down}
use Rattle.journal_words.specs.declared.lines.Line.{Line}
use Rattle.journal_words.specs.declared.lines.Line.TheVariants.{Made, Happened}
use Rattle.journal_text.specs.Values.{Digest, first_bytes, node_text, link_text}
use Rattle.journal_words.specs.Names.{named_in}
use Rattle.text_words.specs.Numbers.{half_limit, whole_limit}

-- what is printed of data as their digest: the first bytes, which are those of the digest where
-- they stand in for data
abbrev pub printed : Digest
printed = first_bytes

-- the names of nodes and links are names
abbrev pub AreNames : Names → Type 0
AreNames names = (list_all is_name names.nodes ≡ true) × (list_all is_name names.links ≡ true)

-- a node that has a name, and is the first that has it
abbrev pub IsNode : Names → ℕ → Type 0
IsNode names node = named_in names.nodes (node_text names node) ≡ Some node

-- a link that has a name, and is the first that has it
abbrev pub IsLink : Names → ℕ → Type 0
IsLink names link = named_in names.links (link_text names link) ≡ Some link

-- data that are printed whole, or what stands for longer data
pub record IsShown (bytes : List ℕ) : Type 0 where
  pub are_bytes : (i : ℕ) → get_or bytes i 0 < 256
  pub short : length bytes ≤ data_limit
  pub filled : drop 32 bytes ≡ replicate (length bytes - 32) 255

-- a signal that its words show whole: its number fits, and its data are shown whole
pub record IsNote (note : SigNote) : Type 0 where
  pub number : note.number ≤ half_limit
  pub bytes : IsShown note.bytes

-- an endpoint whose numbers fit, over a link that has a name
abbrev pub IsPeer : Names → Peer → Type 0
IsPeer names (Here inc) = inc.0 ≤ whole_limit
IsPeer names (There link session inc) =
    IsLink names link.0 × (session.0 ≤ whole_limit) × (inc.0 ≤ whole_limit)

-- a name, over a link that has one where it is behind a link
abbrev pub IsPath : Names → Path → Type 0
IsPath names (Local name) = is_name name ≡ true
IsPath names (Over link name) = IsLink names link.0 × (is_name name ≡ true)

-- a maker whose number fits
abbrev pub IsMaker : By → Type 0
IsMaker (Actor k) = k ≤ half_limit
IsMaker (Pump link) = link.0 ≤ half_limit

-- these are numbers of 32 bits
abbrev pub AreNumbers : List ℕ → Type 0
AreNumbers listed = (i : ℕ) → get_or listed i 0 ≤ half_limit

-- a filter lists numbers of 32 bits alone
abbrev pub IsFilter : Sigsel → Type 0
IsFilter Any = Unit {0}
IsFilter (Only listed) = AreNumbers listed
IsFilter (Not listed) = AreNumbers listed

-- a position whose numbers fit
abbrev pub IsPosition : ItemAt → Type 0
IsPosition at = (at.step ≤ whole_limit) × (at.place ≤ whole_limit)

-- the step and the endpoint of a refusal, which aren't printed, are 0
abbrev pub IsRefusal : Refusal → Type 0
IsRefusal (NotOpen at) = at ≡ 0
IsRefusal (IsOpen inc) = inc.0 ≡ 0
IsRefusal NoPeer = Unit {0}
IsRefusal NoSignal = Unit {0}
IsRefusal NoRef = Unit {0}

-- a head that its words show whole
abbrev pub IsHead : Names → Head → Type 0
IsHead names (Open name) = is_name name ≡ true
IsHead names Close = Unit {0}
IsHead names (Send peer note answer) = IsPeer names peer × IsNote note
IsHead names (Take filter at) = IsFilter filter × IsPosition at
IsHead names (TakeNone filter) = IsFilter filter
IsHead names (Waits filter) = IsFilter filter
IsHead names (Hunt path note) = IsPath names path × IsNote note
IsHead names (Attach peer note) = IsPeer names peer × IsNote note
IsHead names (Detach reference answer) = reference.0 ≤ whole_limit
IsHead names (Cut link) = IsLink names link.0
IsHead names (Mend link) = IsLink names link.0
IsHead names (Settle link) = IsLink names link.0
IsHead names (Restart node) = IsNode names node.0
IsHead names (Wire link side verdict) = IsLink names link.0 × (fits_verdict verdict ≡ true)
IsHead names (Tick link side) = IsLink names link.0
IsHead names (Refused reason) = IsRefusal reason
IsHead names Ended = Unit {0}

-- an effect that its words show whole
abbrev pub IsEffect : Names → Effect → Type 0
IsEffect names (Opened inc) = inc.0 ≤ whole_limit
IsEffect names (Closed inc) = inc.0 ≤ whole_limit
IsEffect names (Arrived inc peer note) = (inc.0 ≤ whole_limit) × IsPeer names peer × IsNote note
IsEffect names (Found inc peer note hunt) =
    (inc.0 ≤ whole_limit) × IsPeer names peer × IsNote note × (hunt ≤ whole_limit)
IsEffect names (Notified inc peer note reference reason) =
    (inc.0 ≤ whole_limit) × IsPeer names peer × IsNote note × (reference.0 ≤ whole_limit)
IsEffect names (Met node peer name) =
    IsNode names node.0 × IsPeer names peer × (is_name name ≡ true)
IsEffect names (Gone node peer) = IsNode names node.0 × IsPeer names peer
IsEffect names (Up node link session other) =
    IsNode names node.0 × IsLink names link.0 × (session.0 ≤ whole_limit)
    × (other.0 ≤ whole_limit)
IsEffect names (Down node link session) =
    IsNode names node.0 × IsLink names link.0 × (session.0 ≤ whole_limit)

-- a line that its words show whole
abbrev pub IsLine : Names → Line → Type 0
IsLine names (Made position by head) = (position ≤ whole_limit) × IsMaker by × IsHead names head
IsLine names (Happened effect) = IsEffect names effect
