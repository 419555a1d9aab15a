-- The rules of an end, one field a rule.
use Rattle.std.specs.Prelude.{◌≡◌, ℕ, true, false, List, [], ◌∷◌, Some, None}
use Rattle.linx_base.specs.declared.identity.Inc.{Inc}
use Rattle.linx_base.specs.SigNotes.{SigNote}
use Rattle.link_addresses.specs.declared.meaning.Meaning.TheVariants.{Free, Live, Closing}
use Rattle.link_addresses.specs.Meanings.{address_of, lowest_free, meaning_of, with_lowest}
use Rattle.link_addresses.specs.Meanings.{with_meaning}
use Rattle.rlnh_messages.specs.declared.rlnh.Rlnh.TheVariants.{Init, InitReply, QueryName}
use Rattle.rlnh_messages.specs.declared.rlnh.Rlnh.TheVariants.{Publish, Unpublish, UnpublishAck}
use Rattle.rlnh_end.specs.declared.heard.Heard.{Heard}
use Rattle.rlnh_end.specs.declared.heard.Heard.TheVariants.{Control, Signal}
use Rattle.rlnh_end.specs.declared.up.Up.TheVariants.{Nothing, Arrived, Freed, Met, Gone}
use Rattle.rlnh_end.specs.declared.up.Up.TheVariants.{Asked, Bad}
use Rattle.rlnh_end.specs.States.{RlnhTables, inc_met, addr_met, no_tables, with_met, without_met}
use Rattle.rlnh_end.specs.States.{is_noted, with_note, without_note}
use Rattle.rlnh_end.specs.Words.{hello, hello_back, question, announce, tell, withdraw, confirm}
use Rattle.rlnh_end.specs.Calls.{end_saying, begin_of, query_of, publish_of, opened_of, close_of}
use Rattle.rlnh_end.specs.Calls.{send_of}
use Rattle.rlnh_end.specs.Hearing.{answers, only, hears}

-- the rules for what an end says by itself
pub record CallRules (t : RlnhTables) : Type 0 where
  -- the connection goes up: all tables are empty, and INIT is said
  pub begins : begin_of ≡ end_saying no_tables (hello ∷ [])
  -- a name is asked for
  pub asks : (name : List ℕ) → query_of t name ≡ end_saying t (question name ∷ [])
  -- an endpoint that is live at an address isn't published again; the note of its name goes away
  pub is_live :
      (inc : Inc) (name : List ℕ) (addr : ℕ) → address_of t.own inc ≡ Some addr
      → publish_of t inc name ≡ end_saying (record t { noted = without_note t.noted name }) []
  -- another one gets the lowest free address; the note goes away
  pub publishes :
      (inc : Inc) (name : List ℕ) → address_of t.own inc ≡ None
      → publish_of t inc name
      ≡ end_saying
      (record t { own = with_lowest t.own (Live inc); noted = without_note t.noted name })
      (announce (lowest_free t.own) inc name ∷ [])
  -- an endpoint that opened is published where its name is noted, and only there
  pub opens_noted :
      (inc : Inc) (name : List ℕ) → is_noted t.noted name ≡ true
      → opened_of t inc name ≡ publish_of t inc name
  pub opens_unasked :
      (inc : Inc) (name : List ℕ) → is_noted t.noted name ≡ false
      → opened_of t inc name ≡ end_saying t []
  -- an endpoint that is live at an address is closed: that is said, and the address isn't free
  pub closes :
      (inc : Inc) (addr : ℕ) → address_of t.own inc ≡ Some addr
      → close_of t inc
      ≡ end_saying (record t { own = with_meaning t.own addr (Closing inc) })
      (withdraw addr inc ∷ [])
  -- nothing is said of one that isn't live at an address
  pub closes_unknown :
      (inc : Inc) → address_of t.own inc ≡ None → close_of t inc ≡ end_saying t []
  -- a signal goes from the address of its sender, where it is live at one, to that of its receiver
  pub sends :
      (from : Inc) (name : List ℕ) (addr : ℕ) (to : Inc) (other : ℕ) (signal : SigNote)
      → address_of t.own from ≡ Some addr → addr_met t.met to ≡ Some other
      → send_of t from name to signal ≡ end_saying t (tell addr from other to signal ∷ [])
  -- a sender that isn't live at an address is published first, and the signal goes from its new one
  pub sends_first :
      (from : Inc) (name : List ℕ) (to : Inc) (other : ℕ) (signal : SigNote)
      → address_of t.own from ≡ None → addr_met t.met to ≡ Some other
      → send_of t from name to signal
      ≡ end_saying
      (record t { own = with_lowest t.own (Live from); noted = without_note t.noted name })
      (announce (lowest_free t.own) from name
      ∷ tell (lowest_free t.own) from other to signal ∷ [])

-- the rules for what an end hears
pub record HearingRules (t : RlnhTables) : Type 0 where
  -- INIT is replied to, and the reply means nothing
  pub init : hears t (Control Init) ≡ answers t (hello_back ∷ []) Nothing
  pub init_reply : hears t (Control InitReply) ≡ only t Nothing
  -- QUERY_NAME is handed up, and the name is noted
  pub query :
      (name : List ℕ) → hears t (Control (QueryName name))
      ≡ only (record t { noted = with_note t.noted name }) (Asked name)
  -- PUBLISH of an address and an incarnation that aren't met is handed up, and the peer is met
  pub publish :
      (addr : ℕ) (inc : Inc) (name : List ℕ) → inc_met t.met addr ≡ None
      → addr_met t.met inc ≡ None
      → hears t (Control (Publish addr inc name))
      ≡ only (record t { met = with_met t.met addr inc }) (Met inc name)
  -- UNPUBLISH of an address that is met is handed up and confirmed, and the peer is forgotten
  pub unpublish :
      (addr : ℕ) (inc : Inc) → inc_met t.met addr ≡ Some inc
      → hears t (Control (Unpublish addr))
      ≡ answers (record t { met = without_met t.met addr }) (confirm addr ∷ []) (Gone inc)
  -- UNPUBLISH_ACK frees the address that is closing
  pub unpublish_ack :
      (addr : ℕ) (inc : Inc) → meaning_of t.own addr ≡ Closing inc
      → hears t (Control (UnpublishAck addr))
      ≡ only (record t { own = with_meaning t.own addr Free }) Nothing
  -- a signal to a living address is handed up
  pub arrives :
      (from to : ℕ) (note : SigNote) (sender receiver : Inc) → inc_met t.met from ≡ Some sender
      → meaning_of t.own to ≡ Live receiver
      → hears t (Signal from to note) ≡ only t (Arrived sender receiver note)
  -- a signal to a closing address is freed
  pub freed :
      (from to : ℕ) (note : SigNote) (sender receiver : Inc) → inc_met t.met from ≡ Some sender
      → meaning_of t.own to ≡ Closing receiver
      → hears t (Signal from to note) ≡ only t (Freed sender receiver note)
  -- what is bad changes nothing, and nothing is said to it
  pub bad : (heard : Heard) → (hears t heard).up ≡ Bad → (hears t heard).made ≡ end_saying t []

-- whatever its tables are, the calls of an end follow the rules
abbrev pub CallsFollowRules : Type 0
CallsFollowRules = (t : RlnhTables) → CallRules t

-- whatever its tables are, an end hears by the rules
abbrev pub HearingFollowsRules : Type 0
HearingFollowsRules = (t : RlnhTables) → HearingRules t
