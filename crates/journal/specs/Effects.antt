-- The effects that heads have, by what is pending at the node.
use Rattle.std.specs.Prelude.{ℕ, Bool, true, false, not, List, [], ◌∷◌, map, filter, Option, Some}
use Rattle.std.specs.Prelude.{None}
use Rattle.linx_base.specs.Content.{with_reason}
use Rattle.linx_base.specs.Peers.{same_inc, same_peer}
use Rattle.linx_base.specs.Pending.{is_for, is_of_session}
use Rattle.linx_base.specs.declared.identity.Inc.{Inc}
use Rattle.linx_base.specs.declared.identity.LinkNo.{LinkNo}
use Rattle.linx_base.specs.declared.identity.NodeNo.{NodeNo}
use Rattle.linx_base.specs.declared.identity.Peer.{Peer}
use Rattle.linx_base.specs.declared.identity.Peer.TheVariants.{Here, There}
use Rattle.linx_base.specs.declared.identity.Session.{Session}
use Rattle.linx_base.specs.declared.name.Path.{Path}
use Rattle.linx_base.specs.declared.name.Path.TheVariants.{Local, Over}
use Rattle.linx_base.specs.declared.pending.PendingAttach.{PendingAttach}
use Rattle.linx_base.specs.declared.pending.PendingHunt.{PendingHunt}
use Rattle.linx_base.specs.declared.signal.Reason.{Reason}
use Rattle.linx_base.specs.declared.signal.Reason.TheVariants as reasons
use Rattle.linx_base.specs.SigNotes.{SigNote}
use Rattle.journal.specs.declared.head.Detached.{Detached}
use Rattle.journal.specs.declared.head.Detached.TheVariants.{Pending, Queued, None as Neither}
use Rattle.journal.specs.declared.head.SentTo.{SentTo}
use Rattle.journal.specs.declared.head.SentTo.TheVariants as sent_to
use Rattle.journal.specs.declared.effect.Effect.{Effect}
use Rattle.journal.specs.declared.effect.Effect.TheVariants.{Opened, Closed, Arrived, Found}
use Rattle.journal.specs.declared.effect.Effect.TheVariants.{Notified, Met, Gone, Down}

-- the hunts for a path
abbrev pub hunts_for : Path → List PendingHunt → List PendingHunt
hunts_for path hunts = filter (is_for path) hunts

-- the answer to a hunt: it found a peer
abbrev pub found : Peer → PendingHunt → Effect
found q h = Found h.at q h.signal h.number

-- what a found peer brings to the hunts for its path, in order of hunting
abbrev pub founds : Path → Peer → List PendingHunt → List Effect
founds path q hunts = map (found q) (hunts_for path hunts)

-- the notification of an attach, for this reason
abbrev pub notice : Reason → PendingAttach → Effect
notice reason a = Notified a.at a.peer (with_reason reason a.signal) a.reference reason

-- what the end of peers brings to the attaches that name them, in order of attaching
abbrev pub notices : Reason → (Peer → Bool) → List PendingAttach → List Effect
notices reason ended attaches = map (notice reason) (filter (λ a. ended a.peer) attaches)

-- the attaches whose holder isn't this endpoint
abbrev pub held_elsewhere : Inc → List PendingAttach → List PendingAttach
held_elsewhere j attaches = filter (λ a. not (same_inc j a.at)) attaches

-- the effects of an opening: itself, and what it brings to the hunts for its name
abbrev pub opening : Inc → List ℕ → List PendingHunt → List Effect
opening i name hunts = Opened i ∷ founds (Local name) (Here i) hunts

-- the effects of a closing: itself, and the notifications of the attaches to the endpoint that
-- another one holds
abbrev pub closing : Inc → List PendingAttach → List Effect
closing j attaches =
    Closed j ∷ notices reasons.Closed (same_peer (Here j)) (held_elsewhere j attaches)

-- the effects of an end: those of a closing, where an endpoint is open
abbrev pub ending : Option Inc → List PendingAttach → List Effect
ending None attaches = []
ending (Some j) attaches = closing j attaches

-- the effects of a restart at its own node: every open endpoint is closed; nobody is notified
abbrev pub closings : List Inc → List Effect
closings incs = map Closed incs

-- what becomes of a signal that is sent to a peer, which is alive or not
abbrev pub send_answer : Bool → Peer → SentTo
send_answer false q = sent_to.Dead
send_answer true (Here i) = sent_to.Queued
send_answer true (There link session i) = sent_to.Link

-- the arrival that a send makes on the own node
abbrev pub arrivals_of : Inc → SigNote → Bool → Peer → List Effect
arrivals_of j note false q = []
arrivals_of j note true (Here i) = Arrived i (Here j) note ∷ []
arrivals_of j note true (There link session i) = []

-- the effect of a hunt that finds a peer at once, or nothing yet
abbrev pub hunted : Option Peer → PendingHunt → List Effect
hunted None h = []
hunted (Some q) h = found q h ∷ []

-- the effect of an attach to a peer, which is alive or not
abbrev pub attached : Bool → PendingAttach → List Effect
attached true a = []
attached false a = notice reasons.Dead a ∷ []

-- the answer to a detach, by whether the attach is owed, and whether its notification is queued
abbrev pub detach_answer : Bool → Bool → Detached
detach_answer true in_queue = Pending
detach_answer false true = Queued
detach_answer false false = Neither

-- the effects of meeting a peer of this name over a link
abbrev pub meeting : NodeNo → LinkNo → Peer → List ℕ → List PendingHunt → List Effect
meeting node link peer name hunts = Met node peer name ∷ founds (Over link name) peer hunts

-- the effects of parting from a peer
abbrev pub parting : NodeNo → Peer → List PendingAttach → List Effect
parting node peer attaches = Gone node peer ∷ notices reasons.Closed (same_peer peer) attaches

-- the effects of losing a session
abbrev pub losing : NodeNo → LinkNo → Session → List PendingAttach → List Effect
losing node link session attaches =
    Down node link session ∷ notices reasons.Lost (is_of_session link session) attaches
