-- What an end knows of the other side, as one list of facts, and how a list of entries holds the
-- facts that were when an event began and those that are now.
use Rattle.std.specs.Prelude.{ℕ, ◌<◌, Bool, false, not, ◌==◌, List, [], ◌∷◌, filter, map}
use Rattle.std.specs.Prelude.{Option, Some, None, ⊤}
use Rattle.std.specs.Option.{option_to_list}
use Rattle.std.specs.List.{AllByRecursion, list_any}
use Rattle.std.specs.Str.{bytes_eq}
use Rattle.linx_base.specs.declared.frame.Message.{Message}
use Rattle.link_addresses.specs.declared.meaning.Meaning.{Meaning}
use Rattle.rlnh_end.specs.declared.met_at.MetAt.{MetAt}
use Rattle.rlnh_end.specs.declared.fact.Fact.{Fact}
use Rattle.rlnh_end.specs.declared.fact.Fact.TheVariants.{Met, Noted}
use Rattle.rlnh_end.specs.declared.fact.Entry.{Entry}
use Rattle.rlnh_end.specs.declared.fact.EntryKey.{EntryKey}
use Rattle.rlnh_end.specs.declared.fact.EntryKey.TheVariants.{Number}
use Rattle.rlnh_end.specs.declared.fact.EntryKey.TheVariants.{Address as AddressKey}
use Rattle.rlnh_end.specs.declared.fact.EntryKey.TheVariants.{Inc as IncKey, Name as NameKey}
use Rattle.rlnh_end.specs.declared.fact.Sought.{Sought}
use Rattle.rlnh_end.specs.declared.fact.Sought.TheVariants.{Address, Inc, Name}
use Rattle.rlnh_end.specs.States.{RlnhState, RlnhTables, is_at, is_peer}

-- ---- facts

-- the peers that were met, in order
abbrev pub peers_in : List Fact → List MetAt
peers_in [] = []
peers_in (Met m ∷ facts) = m ∷ peers_in facts
peers_in (Noted name ∷ facts) = peers_in facts

-- the names that are noted, in order
abbrev pub names_in : List Fact → List (List ℕ)
names_in [] = []
names_in (Met m ∷ facts) = names_in facts
names_in (Noted name ∷ facts) = name ∷ names_in facts

-- the fact is looked for
abbrev pub is_sought : Sought → Fact → Bool
is_sought (Address addr) (Met m) = is_at addr m
is_sought (Address addr) (Noted name) = false
is_sought (Inc inc) (Met m) = is_peer inc m
is_sought (Inc inc) (Noted name) = false
is_sought (Name sought) (Met m) = false
is_sought (Name sought) (Noted name) = bytes_eq sought.now name

-- ---- entries

-- the fact of an entry is looked for
abbrev pub is_sought_entry : Sought → Entry → Bool
is_sought_entry sought e = is_sought sought e.fact

-- by what a fact is looked for
abbrev pub key_of : Sought → EntryKey
key_of (Address addr) = AddressKey addr
key_of (Inc inc) = IncKey inc
key_of (Name name) = NameKey name.now

-- by what a fact is found
abbrev pub first_key : Fact → EntryKey
first_key (Met m) = AddressKey m.addr
first_key (Noted name) = NameKey name

-- by what a peer that was met is found besides its address: its incarnation; a noted name has
-- nothing else
abbrev pub second_key : Fact → Option EntryKey
second_key (Met m) = Some (IncKey m.inc)
second_key (Noted name) = None

-- all by what an entry is found: its number, and what its fact is found by
abbrev pub keys_of : Entry → List EntryKey
keys_of e = Number e.number ∷ first_key e.fact ∷ option_to_list (second_key e.fact)

-- the entry has none of these numbers
abbrev pub has_none : List ℕ → Entry → Bool
has_none numbers e = not (list_any (λ n. n == e.number) numbers)

-- the facts of the entries that have none of these numbers
abbrev pub facts_without : List ℕ → List Entry → List Fact
facts_without numbers entries = map (λ e. e.fact) (filter (has_none numbers) entries)

-- ---- the way back

-- the entries of the connection in which the event began
abbrev pub began_with : Option (List Entry) → List Entry → List Entry
began_with None entries = entries
began_with (Some before) entries = before

-- the numbers of entries rise, and are below another
abbrev pub AreNumbered : ℕ → List Entry → Type 0
AreNumbered next [] = ⊤
AreNumbered next (e ∷ entries) =
    (e.number < next) × AllByRecursion (λ f. e.number < f.number) entries × AreNumbered next entries

-- the numbers of entries are below another
abbrev pub AreBelow : ℕ → List ℕ → Type 0
AreBelow next numbers = AllByRecursion (λ n. n < next) numbers

-- the entries of the connection before, if there are any, and those of this one are numbered, and
-- so are those that came or went
pub record AreFacts (entries : List Entry) (before : Option (List Entry)) (come gone : List ℕ)
    (next : ℕ) : Type 0 where
  pub numbered : AreNumbered next entries
  pub began_numbered : AreNumbered next (began_with before entries)
  pub come_below : AreBelow next come
  pub gone_below : AreBelow next gone

-- ---- an end by its facts

-- the tables of an end: the meanings of its addresses, and the peers and names among its facts
abbrev pub tables_of : List Meaning → List Fact → RlnhTables
tables_of own facts = record { own = own; met = peers_in facts; noted = names_in facts }

-- an end: its tables, and what is still to go out
abbrev pub state_of : List Meaning → List Fact → List Message → RlnhState
state_of own facts out = record { tables = tables_of own facts; out = out }

-- an end with other tables
abbrev pub with_tables : RlnhState → RlnhTables → RlnhState
with_tables s t = record s { tables = t }
