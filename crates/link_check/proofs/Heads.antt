-- THE EFFECTS OF A HEAD OFF THE LINKS speak of no link: an endpoint opens or closes, a signal arrives
-- from the own node, a hunt finds, an attach is notified.
use Rattle.std.proofs.Common.{ℕ, Bool, true, false, List, [], ◌∷◌, map, filter, Option, Some, None}
use Rattle.std.specs.List.{AllByRecursion}
use Rattle.linx_base.specs.Peers.{same_peer}
use Rattle.linx_base.specs.SigNotes.{SigNote}
use Rattle.linx_base.specs.declared.identity.Inc.{Inc}
use Rattle.linx_base.specs.declared.identity.Peer.{Peer}
use Rattle.linx_base.specs.declared.identity.Peer.TheVariants.{Here, There}
use Rattle.linx_base.specs.declared.name.Path.{Path}
use Rattle.linx_base.specs.declared.name.Path.TheVariants.{Local}
use Rattle.linx_base.specs.declared.pending.PendingAttach.{PendingAttach}
use Rattle.linx_base.specs.declared.pending.PendingHunt.{PendingHunt}
use Rattle.linx_base.specs.declared.signal.Reason.{Reason}
use Rattle.linx_base.specs.declared.signal.Reason.TheVariants as reasons
use Rattle.journal.specs.declared.effect.Effect.{Effect}
use Rattle.journal.specs.declared.effect.Effect.TheVariants.{Arrived, Down, Gone, Met, Up}
use Rattle.journal.specs.declared.effect.Step.{Step}
use Rattle.journal.specs.declared.head.Head.{Head}
use Rattle.journal.specs.declared.head.Head.TheVariants as heads
use Rattle.journal.specs.Effects.{arrivals_of, attached, closings, ending, found, held_elsewhere}
use Rattle.journal.specs.Effects.{hunted, hunts_for, notice}
use Rattle.journal.specs.History.{next_inc, open_endpoints, opened_on}
use Rattle.journal.specs.Laws.{attaching, effects_by, hunting_by, sending}
use Rattle.journal.specs.Living.{find, is_alive}
use Rattle.journal.specs.Pending.{hunting, owed}

abbrev pub IsHere : Effect → Type 0
IsHere (Arrived b (There l x a) note) = ⊥
IsHere (Met n q name) = ⊥
IsHere (Gone n q) = ⊥
IsHere (Up n l x y) = ⊥
IsHere (Down n l x) = ⊥
IsHere _ = Unit {0}

abbrev pub AreHere : List Effect → Type 0
AreHere es = AllByRecursion IsHere es

pub here-founds : (q : Peer) (hunts : List PendingHunt) → AreHere (map (found q) hunts)
here-founds q [] = tt
here-founds q (h ∷ hunts) = (tt, here-founds q hunts)

pub here-notices : (reason : Reason) (attaches : List PendingAttach)
    → AreHere (map (notice reason) attaches)
here-notices reason [] = tt
here-notices reason (a ∷ attaches) = (tt, here-notices reason attaches)

pub here-closings : (incs : List Inc) → AreHere (closings incs)
here-closings [] = tt
here-closings (i ∷ incs) = (tt, here-closings incs)

here-ending : (me : Option Inc) (attaches : List PendingAttach) → AreHere (ending me attaches)
here-ending None attaches = tt
here-ending (Some j) attaches = (
  tt,
  here-notices reasons.Closed
      (filter (λ a. same_peer (Here j) a.peer) (held_elsewhere j attaches)),
)

here-arrivals : (j : Inc) (note : SigNote) (alive : Bool) (q : Peer)
    → AreHere (arrivals_of j note alive q)
here-arrivals j note false q = tt
here-arrivals j note true (Here i) = (tt, tt)
here-arrivals j note true (There l x i) = tt

here-hunted : (q : Option Peer) (h : PendingHunt) → AreHere (hunted q h)
here-hunted None h = tt
here-hunted (Some q) h = (tt, tt)

here-attached : (alive : Bool) (a : PendingAttach) → AreHere (attached alive a)
here-attached true a = tt
here-attached false a = (tt, tt)

module _ (P : List Step) (node : ℕ) where
  here-sending : (me : Option Inc) (q : Peer) (note : SigNote) → AreHere (sending P node me q note)
  here-sending None q note = tt
  here-sending (Some j) q note = here-arrivals j note (is_alive P node q) q

  here-hunting : (me : Option Inc) (path : Path) (note : SigNote)
      → AreHere (hunting_by P node me path note)
  here-hunting None path note = tt
  here-hunting (Some j) path note = here-hunted (find P node path) _

  here-attaching : (me : Option Inc) (q : Peer) (note : SigNote)
      → AreHere (attaching P node me q note)
  here-attaching None q note = tt
  here-attaching (Some j) q note = here-attached (is_alive P node q) _

  -- those of every head off the links
  pub here-head : (me : Option Inc) (head : Head) → AreHere (effects_by P node me head)
  here-head me (heads.Open name) = (
    tt,
    here-founds (Here (next_inc node (opened_on P node))) (hunts_for (Local name) (hunting P node)),
  )
  here-head me heads.Close = here-ending me (owed P node)
  here-head me (heads.Send q note answer) = here-sending me q note
  here-head me (heads.Hunt path note) = here-hunting me path note
  here-head me (heads.Attach q note) = here-attaching me q note
  here-head me (heads.Restart n) = here-closings (open_endpoints P n.0)
  here-head me heads.Ended = here-ending me (owed P node)
  here-head me _ = tt
