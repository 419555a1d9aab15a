-- The functions of an end computed on worked rows.
use Rattle.std.proofs.Common.{◌≡◌, ℕ, List, [], ◌∷◌, ◌++◌, refl}
use Rattle.linx_base.specs.Numbers.{inc_of}
use Rattle.linx_base.specs.declared.identity.Inc.{Inc}
use Rattle.linx_base.specs.SigNotes.{SigNote}
use Rattle.link_addresses.specs.declared.meaning.Meaning.TheVariants.{Free, Live, Closing}
use Rattle.link_addresses.specs.Meanings.{address_of, lowest_free, with_lowest}
use Rattle.rlnh_messages.specs.Messages.{spelling_of}
use Rattle.rlnh_messages.specs.declared.rlnh.Rlnh.TheVariants.{Init, InitReply, QueryName}
use Rattle.rlnh_messages.specs.declared.rlnh.Rlnh.TheVariants.{Publish, Unpublish, UnpublishAck}
use Rattle.rlnh_end.specs.declared.heard.Heard.{Heard}
use Rattle.rlnh_end.specs.declared.heard.Heard.TheVariants.{Control, Signal, Garbage}
use Rattle.rlnh_end.specs.declared.up.Up.{Up}
use Rattle.rlnh_end.specs.declared.up.Up.TheVariants.{Nothing, Arrived, Freed, Met, Gone}
use Rattle.rlnh_end.specs.declared.up.Up.TheVariants.{Asked, Bad}
use Rattle.rlnh_end.specs.States.{RlnhTables, new_end, no_tables}
use Rattle.rlnh_end.specs.Words.{Word, announce, tell, withdraw, confirm, message_of}
use Rattle.rlnh_end.specs.Calls.{Saying, after, begin_of, publish_of, opened_of, close_of, send_of}
use Rattle.rlnh_end.specs.Hearing.{Hearing, hears}

-- incarnations of the own node, 1, and of the other one, 2
abbrev own : ℕ → Inc
own k = inc_of 1 k

abbrev peer : Inc
peer = inc_of 2 1

-- the name `b`, and a signal
abbrev b : List ℕ
b = 98 ∷ []

abbrev note : SigNote
note = record { number = 5; bytes = 170 ∷ [] }

-- PUBLISH of address 1, incarnation 2.1, name `server`
publish_bytes : (message_of (announce 1 peer (115 ∷ 101 ∷ 114 ∷ 118 ∷ 101 ∷ 114 ∷ []))).body
    ≡ 4 ∷ 0 ∷ 0 ∷ 0 ∷ 0 ∷ 0 ∷ 0 ∷ 1 ∷ 0 ∷ 0 ∷ 0 ∷ 2 ∷ 0 ∷ 0 ∷ 0 ∷ 1
    ∷ 115 ∷ 101 ∷ 114 ∷ 118 ∷ 101 ∷ 114 ∷ []
unfolding spelling_of
publish_bytes = refl

-- the signal 5 with data aa
signal_bytes : message_of (tell 1 (own 1) 2 peer note)
    ≡ record { from = 1; to = 2; body = 0 ∷ 0 ∷ 0 ∷ 5 ∷ 170 ∷ [] }
signal_bytes = refl

-- a connection that begins says INIT, behind what was there
began : after new_end begin_of
    ≡ record {
      tables = no_tables;
      out = record { from = 0; to = 0; body = 1 ∷ 0 ∷ 0 ∷ 0 ∷ 0 ∷ 0 ∷ 0 ∷ 1 ∷ [] } ∷ [];
    }
unfolding spelling_of
began = refl

-- what an end does in turn
data Doing : Type 0 where
  hear : Heard → Doing
  open_named : Inc → List ℕ → Doing
  publish : Inc → List ℕ → Doing
  close : Inc → Doing
  send : Inc → Inc → Doing

-- the tables, all that was said and all that was handed up, in order
record Told : Type 0 where
  tables : RlnhTables
  says : List Word
  ups : List Up

abbrev says_more : Told → Saying → Told
says_more told made = record told { tables = made.tables; says = told.says ++ made.says }

abbrev hears_more : Told → Hearing → Told
hears_more told heard = record (says_more told heard.made) { ups = told.ups ++ heard.up ∷ [] }

abbrev done : Told → Doing → Told
done told (hear heard) = hears_more told (hears told.tables heard)
done told (open_named inc name) = says_more told (opened_of told.tables inc name)
done told (publish inc name) = says_more told (publish_of told.tables inc name)
done told (close inc) = says_more told (close_of told.tables inc)
done told (send from to) = says_more told (send_of told.tables from b to note)

all_done : Told → List Doing → Told
all_done told [] = told
all_done told (doing ∷ doings) = all_done (done told doing) doings

-- from the going up on
abbrev ran : List Doing → Told
ran doings = all_done (record { tables = no_tables; says = []; ups = [] }) doings

-- the other side asks for `b`, which is noted until an endpoint of that name opens
asked : ran (hear (Control (QueryName b)) ∷ hear (Control (QueryName b)) ∷ [])
    ≡ record {
      tables = record no_tables { noted = b ∷ [] };
      says = [];
      ups = Asked b ∷ Asked b ∷ [];
    }
unfolding all_done hears
asked = refl

asked_opens :
    ran (hear (Control (QueryName b)) ∷ open_named (own 1) b ∷ open_named (own 2) b ∷ [])
    ≡ record {
      tables = record no_tables { own = Live (own 1) ∷ [] };
      says = announce 1 (own 1) b ∷ [];
      ups = Asked b ∷ [];
    }
unfolding all_done hears address_of lowest_free with_lowest
asked_opens = refl

-- an address is freed at its acknowledgement, and not at UNPUBLISH
abbrev closing : List Doing
closing = publish (own 1) b ∷ close (own 1) ∷ publish (own 2) b ∷ []

address_closing : ran closing
    ≡ record {
      tables = record no_tables { own = Closing (own 1) ∷ Live (own 2) ∷ [] };
      says = announce 1 (own 1) b ∷ withdraw 1 (own 1) ∷ announce 2 (own 2) b ∷ [];
      ups = [];
    }
unfolding all_done address_of lowest_free with_lowest
address_closing = refl

abbrev acknowledging : List Doing
acknowledging =
    closing
    ++ hear (Control (UnpublishAck 1))
    ∷ hear (Control (UnpublishAck 1))
    ∷ publish (own 3) b
    ∷ []

address_freed : ran acknowledging
    ≡ record {
      tables = record no_tables { own = Live (own 3) ∷ Live (own 2) ∷ [] };
      says = announce 1 (own 1) b ∷ withdraw 1 (own 1) ∷ announce 2 (own 2) b
          ∷ announce 1 (own 3) b ∷ [];
      ups = Nothing ∷ Bad ∷ [];
    }
unfolding all_done hears address_of lowest_free with_lowest
address_freed = refl

-- a sender is published before its first signal, and only once
abbrev met : List Doing
met = hear (Control (Publish 7 peer b)) ∷ []

first_signal : ran (met ++ send (own 1) peer ∷ send (own 1) peer ∷ [])
    ≡ record {
      tables = record no_tables {
        own = Live (own 1) ∷ [];
        met = record { addr = 7; inc = peer } ∷ [];
      };
      says = announce 1 (own 1) b ∷ tell 1 (own 1) 7 peer note ∷ tell 1 (own 1) 7 peer note ∷ [];
      ups = Met peer b ∷ [];
    }
unfolding all_done hears address_of lowest_free with_lowest
first_signal = refl

-- a signal arrives at a living address, is freed at a closing one, and is bad at a free one; and a
-- peer is forgotten at UNPUBLISH
abbrev to_one : Doing
to_one = hear (Signal 7 1 note)

arriving : ran (met ++ publish (own 1) b ∷ to_one ∷ close (own 1) ∷ to_one
    ∷ hear (Control (UnpublishAck 1)) ∷ to_one ∷ hear (Control (Unpublish 7)) ∷ to_one ∷ [])
    ≡ record {
      tables = record no_tables { own = Free ∷ [] };
      says = announce 1 (own 1) b ∷ withdraw 1 (own 1) ∷ confirm 7 ∷ [];
      ups = Met peer b ∷ Arrived peer (own 1) note ∷ Freed peer (own 1) note ∷ Nothing ∷ Bad
          ∷ Gone peer ∷ Bad ∷ [];
    }
unfolding all_done hears address_of lowest_free with_lowest
arriving = refl

-- what is met isn't met again, at no other address and as nobody else
met_again : (ran (met ++ hear (Control (Publish 7 (inc_of 2 2) b))
    ∷ hear (Control (Publish 8 peer b)) ∷ hear (Control (Publish 8 (inc_of 2 2) b)) ∷ [])).ups
    ≡ Met peer b ∷ Bad ∷ Bad ∷ Met (inc_of 2 2) b ∷ []
unfolding all_done hears
met_again = refl

-- what is unknown is bad
unknown : (ran (hear (Control (Unpublish 9)) ∷ hear (Control (UnpublishAck 1))
    ∷ hear (Signal 5 1 note) ∷ hear Garbage ∷ hear (Control Init)
    ∷ hear (Control InitReply) ∷ [])).ups
    ≡ Bad ∷ Bad ∷ Bad ∷ Bad ∷ Nothing ∷ Nothing ∷ []
unfolding all_done hears
unknown = refl
