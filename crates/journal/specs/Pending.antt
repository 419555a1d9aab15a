-- What is pending at a node, cut out of the history: hunts without an answer, and attaches that are
-- owed a notification. Each is the list of records that the node's kernel is seen as.
use Rattle.std.specs.Prelude.{ℕ, suc, Bool, true, false, not, ◌&&◌, ◌||◌, ◌==◌, List, [], ◌∷◌, ◌++◌}
use Rattle.std.specs.Prelude.{length, filter, Option, Some, None, if◌then◌else◌}
use Rattle.std.specs.List.{list_any}
use Rattle.linx_base.specs.Numbers.{is_on}
use Rattle.linx_base.specs.Peers.{same_inc}
use Rattle.linx_base.specs.Pending.{is_attach}
use Rattle.linx_base.specs.declared.identity.AttRef.{AttRef}
use Rattle.linx_base.specs.declared.identity.Inc.{Inc}
use Rattle.linx_base.specs.declared.identity.Peer.{Peer}
use Rattle.linx_base.specs.declared.name.Path.{Path}
use Rattle.linx_base.specs.declared.pending.PendingAttach.{PendingAttach}
use Rattle.linx_base.specs.declared.pending.PendingHunt.{PendingHunt}
use Rattle.linx_base.specs.SigNotes.{SigNote}
use Rattle.journal.specs.declared.head.Head.{Head}
use Rattle.journal.specs.declared.head.Head.TheVariants.{Hunt, Attach, Detach}
use Rattle.journal.specs.declared.head.Detached.{Detached}
use Rattle.journal.specs.declared.head.Detached.TheVariants.{Pending, Queued, None as Neither}
use Rattle.journal.specs.declared.effect.Effect.{Effect}
use Rattle.journal.specs.declared.effect.Effect.TheVariants.{Found, Notified}
use Rattle.journal.specs.declared.effect.Step.{Step}
use Rattle.journal.specs.History.{closes, endpoint_by}

-- the effect answers the hunt: it has its number, at its hunter
abbrev pub answers_hunt : PendingHunt → Effect → Bool
answers_hunt h (Found i q note number) = number == h.number && same_inc i h.at
answers_hunt h _ = false

-- the effects end a hunt: they answer it, or close its hunter
abbrev pub ends_hunt : List Effect → PendingHunt → Bool
ends_hunt effects h = list_any (answers_hunt h) effects || list_any (closes h.at) effects

-- the hunt that this endpoint begins at step k, if it is one of the node
abbrev pub hunt_at : ℕ → ℕ → Option Inc → Path → SigNote → List PendingHunt
hunt_at node k None path note = []
hunt_at node k (Some j) path note =
    if is_on node j then (record { at = j; path = path; signal = note; number = k }) ∷ [] else []

-- the hunt that a head begins
abbrev pub hunt_in : ℕ → ℕ → Option Inc → Head → List PendingHunt
hunt_in node k me (Hunt path note) = hunt_at node k me path note
hunt_in node k me _ = []

-- the hunts that are pending after step k, of those before it
abbrev pub hunts_past : ℕ → ℕ → Option Inc → Head → List Effect → List PendingHunt
    → List PendingHunt
hunts_past node k me head effects before =
    filter (λ h. not (ends_hunt effects h)) (before ++ hunt_in node k me head)

-- the hunts of a node that are pending, in order of hunting
abbrev pub hunting : List Step → ℕ → List PendingHunt
hunting [] node = []
hunting (s ∷ P) node =
    hunts_past node (suc (length P)) (endpoint_by P s.by) s.head s.effects (hunting P node)

-- the attach of this reference is one of the endpoint's own
abbrev pub is_own_attach : Option Inc → AttRef → PendingAttach → Bool
is_own_attach None r a = false
is_own_attach (Some j) r a = is_attach j r a

-- the detach was answered so that the attach is cancelled
abbrev pub cancels : Detached → Bool
cancels Pending = true
cancels Queued = false
cancels Neither = false

-- a head of this endpoint cancels the attach
abbrev pub detaches : Option Inc → Head → PendingAttach → Bool
detaches me (Detach r answer) a = cancels answer && is_own_attach me r a
detaches me _ a = false

-- the effect is the notification of the attach: it has its reference, at its holder
abbrev pub notifies : PendingAttach → Effect → Bool
notifies a (Notified i q note r reason) = r.0 == a.reference.0 && same_inc i a.at
notifies a _ = false

-- a step settles an attach: it notifies it, cancels it, or closes its holder
abbrev pub ends_attach : Option Inc → Head → List Effect → PendingAttach → Bool
ends_attach me head effects a =
    list_any (notifies a) effects || detaches me head a
    || list_any (closes a.at) effects

-- the attach that this endpoint begins at step k, if it is one of the node
abbrev pub attach_at : ℕ → ℕ → Option Inc → Peer → SigNote → List PendingAttach
attach_at node k None q note = []
attach_at node k (Some j) q note =
    if is_on node j
    then (record { at = j; peer = q; signal = note; reference = record { 0 = k } }) ∷ []
    else []

-- the attach that a head begins
abbrev pub attach_in : ℕ → ℕ → Option Inc → Head → List PendingAttach
attach_in node k me (Attach q note) = attach_at node k me q note
attach_in node k me _ = []

-- the attaches that are owed a notification after step k, of those before it
abbrev pub owed_past : ℕ → ℕ → Option Inc → Head → List Effect → List PendingAttach
    → List PendingAttach
owed_past node k me head effects before =
    filter (λ a. not (ends_attach me head effects a)) (before ++ attach_in node k me head)

-- the attaches of a node that are owed a notification, in order of attaching
abbrev pub owed : List Step → ℕ → List PendingAttach
owed [] node = []
owed (s ∷ P) node =
    owed_past node (suc (length P)) (endpoint_by P s.by) s.head s.effects (owed P node)
