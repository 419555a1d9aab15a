-- What a call makes of the tables of an end, and what the end says thereby: one small function for
-- each rule.
use Rattle.std.specs.Prelude.{ℕ, if◌then◌else◌, List, [], ◌∷◌, ◌++◌, Option, Some, None}
use Rattle.linx_base.specs.declared.identity.Inc.{Inc}
use Rattle.linx_base.specs.declared.frame.Message.{Message}
use Rattle.linx_base.specs.SigNotes.{SigNote}
use Rattle.link_addresses.specs.declared.meaning.Meaning.TheVariants.{Live, Closing}
use Rattle.link_addresses.specs.Meanings.{address_of, lowest_free, with_lowest, with_meaning}
use Rattle.rlnh_end.specs.States.{RlnhTables, RlnhState, no_tables, addr_met, is_noted}
use Rattle.rlnh_end.specs.States.{without_note}
use Rattle.rlnh_end.specs.Words.{Word, hello, question, announce, tell, withdraw, message_of}

-- the tables of an end after a call, and what it said, in order
pub record Saying : Type 0 where
  pub tables : RlnhTables
  pub says : List Word

-- an end with these tables, which said these words
abbrev pub end_saying : RlnhTables → List Word → Saying
end_saying t words = record { tables = t; says = words }

-- the messages of words go out behind others, one after the other
abbrev pub with_words : List Message → List Word → List Message
with_words out [] = out
with_words out (word ∷ words) = with_words (out ++ message_of word ∷ []) words

-- an end after a call: its tables, and what was said behind what is still to go out
abbrev pub after : RlnhState → Saying → RlnhState
after s made = record { tables = made.tables; out = with_words s.out made.says }

-- the connection goes up: the tables are empty, and INIT is said
abbrev pub begin_of : Saying
begin_of = end_saying no_tables (hello ∷ [])

-- what an end makes of a question for a name, which it says
abbrev pub query_of : RlnhTables → List ℕ → Saying
query_of t name = end_saying t (question name ∷ [])

-- an incarnation that is live at an address isn't published again; another one gets the lowest free
-- address, which is said
abbrev pub announced : RlnhTables → Inc → List ℕ → Option ℕ → Saying
announced t inc name (Some addr) = end_saying t []
announced t inc name None =
    end_saying (record t { own = with_lowest t.own (Live inc) })
    (announce (lowest_free t.own) inc name ∷ [])

-- an endpoint is published: the note of its name goes away
abbrev pub publish_of : RlnhTables → Inc → List ℕ → Saying
publish_of t inc name =
    announced (record t { noted = without_note t.noted name }) inc name (address_of t.own inc)

-- an endpoint opened: it is published where its name is noted
abbrev pub opened_of : RlnhTables → Inc → List ℕ → Saying
opened_of t inc name = if is_noted t.noted name then publish_of t inc name else end_saying t []

-- an endpoint closes: where it is live, that is said, and its address is closing
abbrev pub closed : RlnhTables → Inc → Option ℕ → Saying
closed t inc None = end_saying t []
closed t inc (Some addr) =
    end_saying (record t { own = with_meaning t.own addr (Closing inc) }) (withdraw addr inc ∷ [])

-- an endpoint closes: it is unpublished where it has an address
abbrev pub close_of : RlnhTables → Inc → Saying
close_of t inc = closed t inc (address_of t.own inc)

-- a sender is published before its first signal
abbrev pub publish_sender_of : RlnhTables → Inc → List ℕ → Option ℕ → Saying
publish_sender_of t inc name (Some addr) = end_saying t []
publish_sender_of t inc name None = publish_of t inc name

-- a signal goes from the address of its sender to that of a peer that was met
abbrev pub told : Option ℕ → Inc → Option ℕ → Inc → SigNote → List Word
told (Some from) sender (Some to) receiver signal = tell from sender to receiver signal ∷ []
told _ sender _ receiver signal = []

-- words are said behind others
abbrev pub then_says : Saying → List Word → Saying
then_says made words = end_saying made.tables (made.says ++ words)

-- behind what an end said it tells a signal, by the addresses that its tables have now
abbrev pub then_signals : Saying → Inc → Inc → SigNote → Saying
then_signals made from to signal =
    then_says made
    (told (address_of made.tables.own from) from (addr_met made.tables.met to) to signal)

-- a signal is sent: its sender is published first where it isn't live, and then the signal goes
abbrev pub send_of : RlnhTables → Inc → List ℕ → Inc → SigNote → Saying
send_of t from name to signal =
    then_signals (publish_sender_of t from name (address_of t.own from)) from to signal
