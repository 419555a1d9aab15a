-- The machine: the head of the step that an event makes after a history.
use Rattle.std.specs.Prelude.{ℕ, zero, suc, Bool, true, false, ◌&&◌, ◌||◌, ◌==◌}
use Rattle.std.specs.Prelude.{List, [], length, is_some, Option, Some, None}
use Rattle.linx_base.specs.declared.identity.Inc.{Inc}
use Rattle.linx_base.specs.declared.item.Item.{Item}
use Rattle.linx_base.specs.SigNotes.{SigNote}
use Rattle.sigsel.specs.Selection.{first_selected}
use Rattle.sigsel.specs.declared.sigsel.Sigsel.{Sigsel}
use Rattle.journal.specs.declared.by.By.{By}
use Rattle.journal.specs.declared.by.By.TheVariants.{Actor, Pump}
use Rattle.journal.specs.declared.event.Event.{Event}
use Rattle.journal.specs.declared.event.Event.TheVariants as asks
use Rattle.journal.specs.declared.head.Head.{Head}
use Rattle.journal.specs.declared.head.Head.TheVariants as heads
use Rattle.journal.specs.declared.effect.Step.{Step}
use Rattle.journal.specs.Effects.{send_answer}
use Rattle.journal.specs.History.{endpoint_of, has_ended}
use Rattle.journal.specs.Laws.{detached_as}
use Rattle.journal.specs.Living.{is_alive}
use Rattle.journal.specs.Rest.{leaves_at_rest, queue_of, waits_with}
use Rattle.journal.specs.Shapes.{Shape, node_by}
use Rattle.node_kernel.specs.declared.ask.Ask.{Ask}
use Rattle.node_kernel.specs.Answers.{granted}

-- the signal in hand; a bare one where there is none
abbrev pub signal_in : Option SigNote → SigNote
signal_in None = record { number = 0; bytes = [] }
signal_in (Some note) = note

-- of the first so many actors each but k leaves this one at rest
abbrev pub all_leave_at_rest : List Step → ℕ → ℕ → Bool
all_leave_at_rest P k zero = true
all_leave_at_rest P k (suc n) =
    all_leave_at_rest P k n && ((k == suc n) || leaves_at_rest P k (suc n))

-- an actor is at rest
abbrev pub is_at_rest : Shape → List Step → ℕ → Bool
is_at_rest shape P k = all_leave_at_rest P k (length shape.actors)

-- a look with nothing selected: none is found at rest, and else the actor waits, which it says once
abbrev pub vain_look : Bool → Bool → Sigsel → Option Head
vain_look true waits filter = Some (heads.TakeNone filter)
vain_look false true filter = None
vain_look false false filter = Some (heads.Waits filter)

-- a look takes the first selected item. With none selected its actor is at rest where every other
-- one leaves it so, and the links are still
abbrev pub look : Shape → List Step → Bool → ℕ → Sigsel → Option Item → Option Head
look shape P still k filter None =
    vain_look (is_at_rest shape P k && still) (is_some (waits_with P k)) filter
look shape P still k filter (Some item) = Some (heads.Take filter item.pos)

-- the head of the step that an event of actor k makes on its node, with this endpoint and this hand
abbrev pub head_of : Shape → List Step → Bool → ℕ → ℕ → Option Inc → Event → SigNote → Option Head
head_of shape P still k node me (asks.Open name) note = Some (heads.Open name)
head_of shape P still k node me asks.Close note = Some heads.Close
head_of shape P still k node me (asks.Send q) note =
    Some (heads.Send q note (send_answer (is_alive P node q) q))
head_of shape P still k node me (asks.Look filter) note =
    look shape P still k filter (first_selected filter (queue_of P me))
head_of shape P still k node me (asks.Hunt path) note = Some (heads.Hunt path note)
head_of shape P still k node me (asks.Attach q) note = Some (heads.Attach q note)
head_of shape P still k node me (asks.Detach r) note =
    Some (heads.Detach r (detached_as P node me r))
head_of shape P still k node me (asks.Cut link) note = Some (heads.Cut link)
head_of shape P still k node me (asks.Mend link) note = Some (heads.Mend link)
head_of shape P still k node me (asks.Restart n) note = Some (heads.Restart n)
head_of shape P still k node me (asks.Settle link) note = Some (heads.Settle link)
head_of shape P still k node me (asks.Refuse reason) note = Some (heads.Refused reason)
head_of shape P still k node me asks.End note = Some heads.Ended
head_of shape P still k node me (asks.Wire link from verdict) note = Some (heads.Wire link from
    verdict)
head_of shape P still k node me (asks.Tick link side) note = Some (heads.Tick link side)

-- the head of the step of what is granted to actor k
abbrev pub granted_head : Shape → List Step → Bool → ℕ → Ask → Option Head
granted_head shape P still k ask =
    head_of shape P still k (node_by shape (Actor k)) (endpoint_of P k) ask.event
    (signal_in ask.hand)

-- the head of the step that an event of a pump makes
abbrev pub pumped_head : Event → Option Head
pumped_head (asks.Wire link from verdict) = Some (heads.Wire link from verdict)
pumped_head (asks.Tick link side) = Some (heads.Tick link side)
pumped_head _ = None

-- THE HEAD OF THE STEP that a maker's event makes, where the links are still or not: none where an
-- actor waits already
abbrev pub head_for : Shape → List Step → Bool → By → Ask → Option Head
head_for shape P still (Actor k) ask = granted_head shape P still k (granted P k ask)
head_for shape P still (Pump link) ask = pumped_head ask.event

-- the event hands a signal over
abbrev pub hands_over : Event → Bool
hands_over (asks.Send q) = true
hands_over (asks.Hunt path) = true
hands_over (asks.Attach q) = true
hands_over _ = false

-- the first so many actors have ended
abbrev pub have_ended : List Step → ℕ → Bool
have_ended P zero = true
have_ended P (suc n) = have_ended P n && has_ended P (suc n)

-- every actor has ended
abbrev pub all_have_ended : Shape → List Step → Bool
all_have_ended shape P = have_ended P (length shape.actors)
