-- What lists of effects open, close, answer, notify and meet.
use Rattle.std.proofs.Common.{◌≡◌, ℕ, Bool, true, false, List, [], ◌∷◌, map, Option, Some, None}
use Rattle.std.proofs.Common.{refl, fold, filter_map}
use Rattle.std.specs.List.{list_any}
use Rattle.linx_base.specs.declared.identity.Inc.{Inc}
use Rattle.linx_base.specs.declared.identity.Peer.{Peer}
use Rattle.linx_base.specs.declared.identity.Peer.TheVariants.{Here, There}
use Rattle.linx_base.specs.declared.pending.MetPeer.{MetPeer}
use Rattle.linx_base.specs.declared.pending.PendingAttach.{PendingAttach}
use Rattle.linx_base.specs.declared.pending.PendingHunt.{PendingHunt}
use Rattle.linx_base.specs.declared.signal.Reason.{Reason}
use Rattle.linx_base.specs.SigNotes.{SigNote}
use Rattle.journal.specs.declared.effect.Effect.{Effect}
use Rattle.journal.specs.declared.effect.Effect.TheVariants.{Arrived}
use Rattle.journal.specs.Effects.{arrivals_of, attached, found, hunted, notice}
use Rattle.journal.specs.History.{closes, opened_in, opens}
use Rattle.journal.specs.Living.{living_after}
use Rattle.journal.specs.Pending.{answers_hunt, notifies}

-- the effects open and close no endpoint
pub record LeavesOpen (es : List Effect) : Type 0 where
  pub opened : filter_map opened_in es ≡ []
  pub opens_none : (i : Inc) → list_any (opens i) es ≡ false
  pub closes_none : (i : Inc) → list_any (closes i) es ≡ false

-- the effects only bring items: they open and close none, and change no peer
pub record OnlyItems (es : List Effect) : Type 0 where
  pub opened : filter_map opened_in es ≡ []
  pub opens_none : (i : Inc) → list_any (opens i) es ≡ false
  pub closes_none : (i : Inc) → list_any (closes i) es ≡ false
  pub meets_none : (node : ℕ) (met : List MetPeer) → fold (living_after node) met es ≡ met

pub leaves_open : {es : List Effect} → OnlyItems es → LeavesOpen es
leaves_open only = record {
  opened = only.opened;
  opens_none = only.opens_none;
  closes_none = only.closes_none;
}

-- they answer no hunt
abbrev pub AnswersNone : List Effect → Type 0
AnswersNone es = (h : PendingHunt) → list_any (answers_hunt h) es ≡ false

-- they notify nobody
abbrev pub NotifiesNone : List Effect → Type 0
NotifiesNone es = (a : PendingAttach) → list_any (notifies a) es ≡ false

pub only-none : OnlyItems []
only-none = record {
  opened = refl;
  opens_none = λ i. refl;
  closes_none = λ i. refl;
  meets_none = λ node met. refl;
}

pub leaves-none : LeavesOpen []
leaves-none = leaves_open only-none

module _ (es : List Effect) (rest : OnlyItems es) where
  pub only-arrived : (i : Inc) (q : Peer) (note : SigNote) → OnlyItems (Arrived i q note ∷ es)
  only-arrived i q note = record {
    opened = rest.opened;
    opens_none = rest.opens_none;
    closes_none = rest.closes_none;
    meets_none = rest.meets_none;
  }

  pub only-found : (q : Peer) (h : PendingHunt) → OnlyItems (found q h ∷ es)
  only-found q h = record {
    opened = rest.opened;
    opens_none = rest.opens_none;
    closes_none = rest.closes_none;
    meets_none = rest.meets_none;
  }

  pub only-notice : (reason : Reason) (a : PendingAttach) → OnlyItems (notice reason a ∷ es)
  only-notice reason a = record {
    opened = rest.opened;
    opens_none = rest.opens_none;
    closes_none = rest.closes_none;
    meets_none = rest.meets_none;
  }

-- what a found peer brings
pub only-founds : (q : Peer) (hs : List PendingHunt) → OnlyItems (map (found q) hs)
only-founds q [] = only-none
only-founds q (h ∷ hs) = only-found (map (found q) hs) (only-founds q hs) q h

pub founds-notify_none : (q : Peer) (hs : List PendingHunt) → NotifiesNone (map (found q) hs)
founds-notify_none q [] r = refl
founds-notify_none q (h ∷ hs) r = founds-notify_none q hs r

-- what the end of a peer brings
pub only-notices : (reason : Reason) (xs : List PendingAttach) → OnlyItems (map (notice reason) xs)
only-notices reason [] = only-none
only-notices reason (a ∷ xs) = only-notice (map (notice reason) xs)
    (only-notices reason xs) reason a

pub notices-answer_none : (reason : Reason) (xs : List PendingAttach)
    → AnswersNone (map (notice reason) xs)
notices-answer_none reason [] n = refl
notices-answer_none reason (a ∷ xs) n = notices-answer_none reason xs n

-- what a send brings
pub only-arrivals : (j : Inc) (note : SigNote) (alive : Bool) (q : Peer)
    → OnlyItems (arrivals_of j note alive q)
only-arrivals j note false q = only-none
only-arrivals j note true (Here i) = only-arrived [] only-none i (Here j) note
only-arrivals j note true (There link session i) = only-none

pub arrivals-answer_none : (j : Inc) (note : SigNote) (alive : Bool) (q : Peer)
    → AnswersNone (arrivals_of j note alive q)
arrivals-answer_none j note false q n = refl
arrivals-answer_none j note true (Here i) n = refl
arrivals-answer_none j note true (There link session i) n = refl

pub arrivals-notify_none : (j : Inc) (note : SigNote) (alive : Bool) (q : Peer)
    → NotifiesNone (arrivals_of j note alive q)
arrivals-notify_none j note false q r = refl
arrivals-notify_none j note true (Here i) r = refl
arrivals-notify_none j note true (There link session i) r = refl

-- what a hunt and an attach bring at once
pub only-hunted : (q : Option Peer) (h : PendingHunt) → OnlyItems (hunted q h)
only-hunted None h = only-none
only-hunted (Some q) h = only-found [] only-none q h

pub hunted-notify_none : (q : Option Peer) (h : PendingHunt) → NotifiesNone (hunted q h)
hunted-notify_none None h r = refl
hunted-notify_none (Some q) h r = refl

pub only-attached : (alive : Bool) (a : PendingAttach) → OnlyItems (attached alive a)
only-attached true a = only-none
only-attached false a = only-notice [] only-none
    Rattle.linx_base.specs.declared.signal.Reason.TheVariants.Dead a

pub attached-answer_none : (alive : Bool) (a : PendingAttach) → AnswersNone (attached alive a)
attached-answer_none true a n = refl
attached-answer_none false a n = refl
