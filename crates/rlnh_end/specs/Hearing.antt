-- What a message makes of the tables of an end, what the end says to it, and what it hands up: one
-- small function for each rule.
use Rattle.std.specs.Prelude.{◌≡◌, ℕ, ◌<◌, ◌||◌, if◌then◌else◌, List, [], ◌∷◌, Option, Some, None}
use Rattle.std.specs.Prelude.{is_some}
use Rattle.linx_base.specs.declared.identity.Inc.{Inc}
use Rattle.linx_base.specs.declared.frame.Message.{Message}
use Rattle.linx_base.specs.SigNotes.{SigNote}
use Rattle.link_addresses.specs.declared.meaning.Meaning.{Meaning}
use Rattle.link_addresses.specs.declared.meaning.Meaning.TheVariants.{Free, Live, Closing}
use Rattle.link_addresses.specs.Meanings.{meaning_of, with_meaning}
use Rattle.rlnh_messages.specs.Messages.{HasAddress, Spells}
use Rattle.rlnh_messages.specs.Signals.{IsSignalBody, SpellsSignal}
use Rattle.rlnh_messages.specs.declared.rlnh.Rlnh.{Rlnh}
use Rattle.rlnh_messages.specs.declared.rlnh.Rlnh.TheVariants.{Init, InitReply, QueryName}
use Rattle.rlnh_messages.specs.declared.rlnh.Rlnh.TheVariants.{Publish, Unpublish, UnpublishAck}
use Rattle.rlnh_end.specs.declared.heard.Heard.{Heard}
use Rattle.rlnh_end.specs.declared.heard.Heard.TheVariants.{Control, Signal, Garbage}
use Rattle.rlnh_end.specs.declared.up.Up.{Up}
use Rattle.rlnh_end.specs.declared.up.Up.TheVariants.{Nothing, Arrived, Freed, Met, Gone}
use Rattle.rlnh_end.specs.declared.up.Up.TheVariants.{Asked, Bad}
use Rattle.rlnh_end.specs.States.{RlnhTables, inc_met, addr_met, with_met, without_met, with_note}
use Rattle.rlnh_end.specs.Words.{Word, hello_back, confirm}
use Rattle.rlnh_end.specs.Calls.{Saying, end_saying}

-- a message with both addresses 0 is this message of RLNH
pub record IsControl (m : Message) (message : Rlnh) : Type 0 where
  pub from : m.from ≡ 0
  pub to : m.to ≡ 0
  pub spelled : Spells message m.body

-- both addresses of a message are above 0, so it is a signal or nothing
pub record HasAddresses (m : Message) : Type 0 where
  pub from : 0 < m.from
  pub to : 0 < m.to

-- a message with both addresses above 0 is this signal, from the one to the other
pub record IsSignalFrom (m : Message) (from to : ℕ) (note : SigNote) : Type 0 where
  pub addressed : HasAddresses m
  pub from_is : m.from ≡ from
  pub to_is : m.to ≡ to
  pub spelled : SpellsSignal note m.body

-- a message is none of RLNH and no signal: exactly one of its addresses is 0, or its body is that
-- of no message of RLNH, or of no signal
pub data IsGarbage (m : Message) : Type 0 where
  from_alone : 0 < m.from → m.to ≡ 0 → IsGarbage m
  to_alone : m.from ≡ 0 → 0 < m.to → IsGarbage m
  no_message : m.from ≡ 0 → m.to ≡ 0 → ((message : Rlnh) → ¬ (Spells message m.body)) → IsGarbage m
  no_signal : HasAddresses m → ¬ IsSignalBody m.body → IsGarbage m

-- what a message is read as
abbrev pub IsRead : Message → Heard → Type 0
IsRead m (Control message) = IsControl m message
IsRead m (Signal from to note) = IsSignalFrom m from to note
IsRead m Garbage = IsGarbage m

-- the address that a message of RLNH names isn't 0
abbrev pub HasReadAddress : Heard → Type 0
HasReadAddress (Control message) = HasAddress message
HasReadAddress (Signal from to note) = Unit {0}
HasReadAddress Garbage = Unit {0}

-- what was made of the tables and said, and what is handed up
pub record Hearing : Type 0 where
  pub made : Saying
  pub up : Up

-- an answer is said, or nothing is
abbrev pub answers : RlnhTables → List Word → Up → Hearing
answers t words up = record { made = end_saying t words; up = up }

-- nothing is said, and this is handed up
abbrev pub only : RlnhTables → Up → Hearing
only t up = answers t [] up

-- PUBLISH of an address or an incarnation that is met is Bad; else the peer is met
abbrev pub heard_publish : RlnhTables → ℕ → Inc → List ℕ → Hearing
heard_publish t addr inc name =
    if is_some (inc_met t.met addr) || is_some (addr_met t.met inc) then only t Bad
    else only (record t { met = with_met t.met addr inc }) (Met inc name)

-- UNPUBLISH of an address that isn't met is Bad; else the peer is forgotten, and that is confirmed
abbrev pub heard_unpublish : RlnhTables → ℕ → Option Inc → Hearing
heard_unpublish t addr None = only t Bad
heard_unpublish t addr (Some inc) =
    answers (record t { met = without_met t.met addr }) (confirm addr ∷ []) (Gone inc)

-- UNPUBLISH_ACK frees a closing address, and is Bad for any other
abbrev pub heard_ack : RlnhTables → ℕ → Meaning → Hearing
heard_ack t addr Free = only t Bad
heard_ack t addr (Live inc) = only t Bad
heard_ack t addr (Closing inc) =
    only (record t { own = with_meaning t.own addr Free }) Nothing

-- a signal from an address that isn't met, or to a free one, is Bad; one to a living address has
-- arrived, and one to a closing address is freed
abbrev pub heard_signal : RlnhTables → SigNote → Option Inc → Meaning → Hearing
heard_signal t note None means = only t Bad
heard_signal t note (Some from) Free = only t Bad
heard_signal t note (Some from) (Live to) = only t (Arrived from to note)
heard_signal t note (Some from) (Closing to) = only t (Freed from to note)

-- INIT is replied to, its reply means nothing, and a name that is asked for is noted
abbrev pub hears_control : RlnhTables → Rlnh → Hearing
hears_control t Init = answers t (hello_back ∷ []) Nothing
hears_control t InitReply = only t Nothing
hears_control t (QueryName name) =
    only (record t { noted = with_note t.noted name }) (Asked name)
hears_control t (Publish addr inc name) = heard_publish t addr inc name
hears_control t (Unpublish addr) = heard_unpublish t addr (inc_met t.met addr)
hears_control t (UnpublishAck addr) = heard_ack t addr (meaning_of t.own addr)

-- a signal comes from one address to another, by what the tables know of both
abbrev pub hears_signal : RlnhTables → ℕ → ℕ → SigNote → Hearing
hears_signal t from to note = heard_signal t note (inc_met t.met from) (meaning_of t.own to)

-- what an end makes of what was read of a message
unfoldable pub hears : RlnhTables → Heard → Hearing
hears t (Control message) = hears_control t message
hears t (Signal from to note) = hears_signal t from to note
hears t Garbage = only t Bad
