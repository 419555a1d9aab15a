-- Each attach that is owed a notification stands in the history, at the step of its reference.
use Rattle.std.proofs.Common.{◌≡◌, ℕ, suc, ◌<◌, Bool, true, false, cond, not, List, [], ◌∷◌, ◌++◌}
use Rattle.std.proofs.Common.{length, Option, Some, None, refl, ap, arith, ◌==◌, eqb-true, ne_eqb}
use Rattle.std.specs.List.{AllByRecursion}
use Rattle.std.proofs.lemmas.Bool.Decides.{nat_tests}
use Rattle.linx_base.specs.Numbers.{is_on}
use Rattle.linx_base.specs.declared.identity.Inc.{Inc}
use Rattle.linx_base.specs.declared.identity.Peer.{Peer}
use Rattle.linx_base.specs.declared.pending.PendingAttach.{PendingAttach}
use Rattle.linx_base.specs.SigNotes.{SigNote}
use Rattle.journal.specs.History.{endpoint_by}
use Rattle.journal.specs.Logs.{step_at}
use Rattle.journal.specs.Pending.{attach_in, owed, ends_attach}
use Rattle.journal.specs.declared.head.Head.{Head}
use Rattle.journal.specs.declared.head.Head.TheVariants.{Attach}
use Rattle.journal.specs.declared.effect.Step.{Step}
use Rattle.journal.proofs.Lists.{all-append, all-filter, all-impl}
use Rattle.image_laws.specs.Told.{attach_in_head, attach_in_step, attached_at}

pub itself : (n : ℕ) → (n == n) ≡ true
itself n = grind (arith, nat_tests)

-- no step stands past the last one
step_at-past : (P : List Step) (k : ℕ) → length P < k → step_at P k ≡ None
step_at-past [] k more = refl
step_at-past (s ∷ P) k more =
    let other : (k == suc (length P)) ≡ false =
    ne_eqb k (suc (length P)) (λ e. absurd (omega (arith, e, more))) in
    rw other (step_at-past P k (omega (arith, more)))

-- the attach of a step is still found after another
pub attached-after : (s : Step) (P : List Step) (k : ℕ) (note : SigNote)
    → attached_at P k ≡ Some note → attached_at (s ∷ P) k ≡ Some note
attached-after s P k note is = go (k == suc (length P)) refl
  where
    go : (b : Bool) → (k == suc (length P)) ≡ b
        → attach_in_step (cond b (Some s) (step_at P k)) ≡ Some note
    go false e = is
    go true e =
        let past : length P < k = omega (arith, eqb-true k (suc (length P)) e) in
        let none : attached_at P k ≡ None = ap attach_in_step (step_at-past P k past) in
        cc

-- that of the newest step is found at once
pub attached-now : (s : Step) (P : List Step)
    → attached_at (s ∷ P) (suc (length P)) ≡ attach_in_head s.head
attached-now s P = rw (itself (suc (length P))) refl

-- the attach stands in the history
abbrev pub IsHeld : List Step → PendingAttach → Type 0
IsHeld H a = attached_at H a.reference.0 ≡ Some a.signal

module _ (H : List Step) (node k : ℕ) where
  begun : (b : Bool) (j : Inc) (q : Peer) (note : SigNote) → attached_at H k ≡ Some note
      → AllByRecursion (IsHeld H)
      (cond b ((record { at = j; peer = q; signal = note; reference = record { 0 = k } }) ∷ []) [])
  begun true j q note is = (is, tt)
  begun false j q note is = tt

  held_new : (me : Option Inc) (head : Head) → attached_at H k ≡ attach_in_head head
      → AllByRecursion (IsHeld H) (attach_in node k me head)
  held_new None (Attach q note) is = tt
  held_new (Some j) (Attach q note) is = begun (is_on node j) j q note is
  held_new me _ is = tt

pub held-after : (s : Step) (P : List Step) (attaches : List PendingAttach)
    → AllByRecursion (IsHeld P) attaches → AllByRecursion (IsHeld (s ∷ P)) attaches
held-after s P attaches all =
    all-impl (IsHeld P) (IsHeld (s ∷ P))
    (λ a is. attached-after s P a.reference.0 a.signal is) attaches all

pub owed-held : (P : List Step) (node : ℕ) → AllByRecursion (IsHeld P) (owed P node)
owed-held [] node = tt
owed-held (s ∷ P) node =
    all-filter (IsHeld (s ∷ P)) (λ a. not (ends_attach (endpoint_by P s.by) s.head s.effects a))
    (owed P node ++ begins)
    (all-append (IsHeld (s ∷ P)) (owed P node) begins
    (held-after s P (owed P node) (owed-held P node))
    (held_new (s ∷ P) node (suc (length P)) (endpoint_by P s.by) s.head (attached-now s P)))
  where
    begins : List PendingAttach
    begins = attach_in node (suc (length P)) (endpoint_by P s.by) s.head
