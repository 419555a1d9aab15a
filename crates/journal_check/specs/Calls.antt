-- What a head of an endpoint asks of its node, by the calls of the node's kernel.
use Rattle.std.specs.Prelude.{ℕ, ◌≡◌, Bool, true, false, not, ◌&&◌, ◌||◌, nat_le, nat_lt}
use Rattle.std.specs.Prelude.{List, [], length, Option, Some, None, is_none, is_some}
use Rattle.linx_base.specs.Content.{data_limit}
use Rattle.linx_base.specs.NameText.{is_name}
use Rattle.linx_base.specs.declared.identity.Inc.{Inc}
use Rattle.linx_base.specs.declared.identity.ItemAt.{ItemAt}
use Rattle.linx_base.specs.declared.identity.Peer.{Peer}
use Rattle.linx_base.specs.declared.item.Item.{Item}
use Rattle.linx_base.specs.declared.name.Path.{Path}
use Rattle.linx_base.specs.declared.pending.PendingAttach.{PendingAttach}
use Rattle.linx_base.specs.declared.pending.PendingHunt.{PendingHunt}
use Rattle.linx_base.specs.SigNotes.{SigNote}
use Rattle.sigsel.specs.Selection.{without_first}
use Rattle.sigsel.specs.declared.sigsel.Sigsel.{Sigsel}
use Rattle.journal.specs.declared.effect.Effect.{Effect}
use Rattle.journal.specs.declared.head.Head.{Head}
use Rattle.journal.specs.declared.head.Head.TheVariants.{Open, Close, Send, Take, TakeNone, Waits}
use Rattle.journal.specs.Effects.{arrivals_of, attached, ending, hunted, opening, send_answer}
use Rattle.journal.specs.Laws.{is_endpoints, is_opening, name_of_path}
use Rattle.journal.specs.declared.head.Head.TheVariants.{Hunt, Attach, Detach, Cut, Mend, Settle}
use Rattle.journal.specs.declared.head.Head.TheVariants.{Restart, Wire, Tick, Refused, Ended}
use Rattle.node_kernel.specs.Calls.{after_attach, after_close, after_detach, after_hunt}
use Rattle.node_kernel.specs.Calls.{after_open, after_send, detached}
use Rattle.node_kernel.specs.Nodes.{NodeState, find_at}
use Rattle.node_kernel.specs.Nodes.{is_living, items_at, next_of, with_items}
use Rattle.journal_check.specs.Earliest.{earliest_of, first_at}

-- a hunt of an endpoint in step k, as its node keeps it
abbrev pub hunt_of : ℕ → Inc → Path → SigNote → PendingHunt
hunt_of k j path note = record { at = j; path = path; signal = note; number = k }

-- an attach of an endpoint in step k, as its node keeps it
abbrev pub attach_of : ℕ → Inc → Peer → SigNote → PendingAttach
attach_of k j q note = record { at = j; peer = q; signal = note; reference = record { 0 = k } }

-- the effects that a send of an endpoint has at a node; none where its maker has no endpoint
abbrev pub send_effects : NodeState → Option Inc → Peer → SigNote → List Effect
send_effects n None q note = []
send_effects n (Some j) q note = arrivals_of j note (is_living n q) q

-- the effects that a hunt of an endpoint has at a node in step k; none where its maker has no
-- endpoint
abbrev pub hunt_effects : NodeState → ℕ → Option Inc → Path → SigNote → List Effect
hunt_effects n k None path note = []
hunt_effects n k (Some j) path note = hunted (find_at n path) (hunt_of k j path note)

-- the effects that an attach of an endpoint has at a node in step k; none where its maker has no
-- endpoint
abbrev pub attach_effects : NodeState → ℕ → Option Inc → Peer → SigNote → List Effect
attach_effects n k None q note = []
attach_effects n k (Some j) q note = attached (is_living n q) (attach_of k j q note)

-- THE EFFECTS that the head of a call has at the node of its maker in step k, by the maker's
-- endpoint
abbrev pub call_effects : NodeState → ℕ → Option Inc → Head → List Effect
call_effects n k me (Open name) = opening (next_of n) name n.hunts
call_effects n k me Close = ending me n.attaches
call_effects n k me (Send q note answer) = send_effects n me q note
call_effects n k me (Take filter position) = []
call_effects n k me (TakeNone filter) = []
call_effects n k me (Waits filter) = []
call_effects n k me (Hunt path note) = hunt_effects n k me path note
call_effects n k me (Attach q note) = attach_effects n k me q note
call_effects n k me (Detach r answer) = []
call_effects n k me (Cut l) = []
call_effects n k me (Mend l) = []
call_effects n k me (Settle l) = []
call_effects n k me (Restart m) = []
call_effects n k me (Wire l side verdict) = []
call_effects n k me (Tick l side) = []
call_effects n k me (Refused reason) = []
call_effects n k me Ended = ending me n.attaches

-- what a call of this endpoint leaves of its node; nothing changes where there is no endpoint
abbrev pub after_if : Option Inc → NodeState → (Inc → NodeState) → NodeState
after_if None n after = n
after_if (Some j) n after = after j

-- a node without the item that a filter selects first at an endpoint; where it selects none, nothing
-- changes
abbrev pub after_receive : NodeState → Inc → Sigsel → NodeState
after_receive n j filter = record n {
  endpoints = with_items n.endpoints j (without_first filter (items_at n.endpoints j));
}

-- THE NODE AFTER THE HEAD of a call in step k, by the endpoint of its maker
abbrev pub call_after : NodeState → ℕ → Option Inc → Head → NodeState
call_after n k me (Open name) = after_open n name k
call_after n k me Close = after_if me n (λ j. after_close n j k)
call_after n k me (Send q note answer) = after_if me n (λ j. after_send n j q note k)
call_after n k me (Take filter position) = after_if me n (λ j. after_receive n j filter)
call_after n k me (TakeNone filter) = after_if me n (λ j. after_receive n j filter)
call_after n k me (Waits filter) = after_if me n (λ j. after_receive n j filter)
call_after n k me (Hunt path note) = after_if me n (λ j. after_hunt n (hunt_of k j path note))
call_after n k me (Attach q note) = after_if me n (λ j. after_attach n (attach_of k j q note))
call_after n k me (Detach r answer) = after_if me n (λ j. after_detach n j r)
call_after n k me (Cut l) = n
call_after n k me (Mend l) = n
call_after n k me (Settle l) = n
call_after n k me (Restart m) = n
call_after n k me (Wire l side verdict) = n
call_after n k me (Tick l side) = n
call_after n k me (Refused reason) = n
call_after n k me Ended = after_if me n (λ j. after_close n j k)

-- the items at a maker's endpoint; none where it has none
abbrev pub own_items : NodeState → Option Inc → List Item
own_items n None = []
own_items n (Some j) = items_at n.endpoints j

-- WHICH ITEM a call is to take at the node of its maker
abbrev pub earliest_in : NodeState → Option Inc → Head → Option ItemAt
earliest_in n me head = earliest_of (own_items n me) head

-- WHAT IT ANSWERS is what the head says: the item that is taken, or that none is selected, and what
-- a detach did
abbrev pub AnswersAs : NodeState → Option Inc → Head → Type 0
AnswersAs n me (Take filter position) = first_at filter (own_items n me) ≡ Some position
AnswersAs n me (TakeNone filter) = first_at filter (own_items n me) ≡ None
AnswersAs n me (Waits filter) = first_at filter (own_items n me) ≡ None
AnswersAs n (Some j) (Detach r answer) = answer ≡ detached n j r
AnswersAs n me head = Unit {0}

-- a send is answered by whether its peer is alive
abbrev pub SendsAs : NodeState → Head → Type 0
SendsAs n (Send q note answer) = answer ≡ send_answer (is_living n q) q
SendsAs n head = Unit {0}

-- TESTS. A head suits the endpoint of its maker: who opens has none, and the steps of an endpoint
-- need one
abbrev pub suits : Option Inc → Head → Bool
suits me head =
    (not (is_opening head) || is_none me) && (not (is_endpoints head) || is_some me)

-- a head is within its bounds: its name is one, and its signal has no more data than a signal may
-- have, that of an attach one byte fewer
abbrev pub is_bounded : Head → Bool
is_bounded (Open name) = is_name name
is_bounded (Send q note answer) = nat_le (length note.bytes) data_limit
is_bounded (Hunt path note) =
    is_name (name_of_path path) && nat_le (length note.bytes) data_limit
is_bounded (Attach q note) = nat_lt (length note.bytes) data_limit
is_bounded _ = true

-- the effects are those that the laws of packets and of ticks name
abbrev pub is_on_link : Head → Bool
is_on_link (Wire l side verdict) = true
is_on_link (Tick l side) = true
is_on_link _ = false

-- the noted effects are those that were made, where a law but that of packets or of ticks names them
abbrev pub AreEffects : Bool → List Effect → List Effect → Type 0
AreEffects true noted made = Unit {0}
AreEffects false noted made = noted ≡ made
