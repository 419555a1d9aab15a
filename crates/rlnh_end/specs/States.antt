-- What an RLNH end is seen as.
use Rattle.std.specs.Prelude.{ℕ, Bool, ◌==◌, if◌then◌else◌, List, [], ◌∷◌, ◌++◌, Option}
use Rattle.std.specs.Prelude.{drop, option_map, slice_get}
use Rattle.std.specs.List.{list_any}
use Rattle.std.specs.Str.{bytes_eq}
use Rattle.linx_base.specs.FirstMatch.{first_match, without_match}
use Rattle.linx_base.specs.Peers.{same_inc}
use Rattle.linx_base.specs.declared.identity.Inc.{Inc}
use Rattle.linx_base.specs.declared.frame.Message.{Message}
use Rattle.link_addresses.specs.declared.meaning.Meaning.{Meaning}
use Rattle.rlnh_end.specs.declared.met_at.MetAt.{MetAt}

-- the tables of an end
pub record RlnhTables : Type 0 where
  -- what the addresses mean that it gave to endpoints of its own node, from address 1 on
  pub own : List Meaning
  -- the peers that it has met, with the addresses that the other side gave them, in order
  pub met : List MetAt
  -- the names that the other side asked for and that nobody has yet, in order
  pub noted : List (List ℕ)

-- an end: its tables, and the messages that are still to be taken out, in order
pub record RlnhState : Type 0 where
  pub tables : RlnhTables
  pub out : List Message

-- the tables of a connection that begins
abbrev pub no_tables : RlnhTables
no_tables = record { own = []; met = []; noted = [] }

-- an end without a connection: no tables, and nothing to say
abbrev pub new_end : RlnhState
new_end = record { tables = no_tables; out = [] }

-- an end whose tables are emptied; what is still to go out stays
abbrev pub emptied : RlnhState → RlnhState
emptied s = record s { tables = no_tables }

-- ---- the output

-- a message goes out behind the others
abbrev pub put : RlnhState → Message → RlnhState
put s message = record s { out = s.out ++ message ∷ [] }

-- the message that goes out next
abbrev pub next_of : RlnhState → Option Message
next_of s = slice_get s.out 0

-- the next message has gone out
abbrev pub after_out : RlnhState → RlnhState
after_out s = record s { out = drop 1 s.out }

-- ---- the peers that were met

-- the peer was met at this address
abbrev pub is_at : ℕ → MetAt → Bool
is_at addr m = addr == m.addr

-- the peer is this incarnation
abbrev pub is_peer : Inc → MetAt → Bool
is_peer inc m = same_inc inc m.inc

-- who was met at an address
abbrev pub inc_met : List MetAt → ℕ → Option Inc
inc_met met addr = option_map (λ m. m.inc) (first_match (is_at addr) met)

-- the address at which an incarnation was met
abbrev pub addr_met : List MetAt → Inc → Option ℕ
addr_met met inc = option_map (λ m. m.addr) (first_match (is_peer inc) met)

-- the met peers, and this one behind them
abbrev pub with_met : List MetAt → ℕ → Inc → List MetAt
with_met met addr inc = met ++ record { addr = addr; inc = inc } ∷ []

-- the met peers but the one at an address
abbrev pub without_met : List MetAt → ℕ → List MetAt
without_met met addr = without_match (is_at addr) met

-- ---- the names that were asked for

-- a name is noted
abbrev pub is_noted : List (List ℕ) → List ℕ → Bool
is_noted noted name = list_any (bytes_eq name) noted

-- the noted names, with this one, which is noted once
abbrev pub with_note : List (List ℕ) → List ℕ → List (List ℕ)
with_note noted name = if is_noted noted name then noted else noted ++ name ∷ []

-- the noted names but this one
abbrev pub without_note : List (List ℕ) → List ℕ → List (List ℕ)
without_note noted name = without_match (bytes_eq name) noted
