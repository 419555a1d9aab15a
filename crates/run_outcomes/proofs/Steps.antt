-- What the steps of a run tell, one after the other.
use Rattle.std.proofs.Common.{◌≡◌, ◌∙◌, ◌++◌, ◌||◌, ℕ, Bool, List, [], ◌∷◌, ap, sym, append-nil}
use Rattle.std.proofs.Common.{append_assoc}
use Rattle.journal.specs.declared.effect.Step.{Step}
use Rattle.journal.specs.Histories.{first_steps}
use Rattle.journal.proofs.Positions.{first_steps_none}
use Rattle.run_outcomes.specs.Openers.{openers, with_opening}
use Rattle.run_outcomes.specs.Outcomes.{told, told_by}
use Rattle.run_outcomes.specs.Rare.{happens, is_in_step}
use Rattle.run_outcomes.specs.declared.openers.Opener.{Opener}
use Rattle.run_outcomes.specs.declared.rare.Rare.{Rare}

-- one step more opens what it does
pub openers_more : (P Q : List Step) (s : Step) (before after : List Opener) → Q ≡ s ∷ P
    → before ≡ openers P → after ≡ with_opening before s → after ≡ openers Q
openers_more P Q s before after grown so_far now =
    now ∙ ap (λ (t : List Opener). with_opening t s) so_far
    ∙ ap (λ (R : List Step). openers R) (sym grown)

-- no step tells nothing
pub told_none : (table : List Opener) (S : List Step) (k : ℕ) (old : List ℕ)
    → old ≡ old ++ told table S k (first_steps 0 S)
told_none table S k old =
    sym (append-nil old) ∙ ap (λ (P : List Step). old ++ told table S k P)
    (sym (first_steps_none S))

-- one step more tells what it does
pub told_more : (table : List Opener) (S : List Step) (k : ℕ) (P Q : List Step) (s : Step)
    (old before after : List ℕ) → Q ≡ s ∷ P → before ≡ old ++ told table S k P
    → after ≡ before ++ told_by table S k s → after ≡ old ++ told table S k Q
told_more table S k P Q s old before after grown so_far now =
    now ∙ ap (λ (b : List ℕ). b ++ told_by table S k s) so_far
    ∙ append_assoc old (told table S k P) (told_by table S k s)
    ∙ ap (λ (R : List Step). old ++ told table S k R) (sym grown)

-- one step more has what it has
pub happens_more : (rare : Rare) (P Q : List Step) (s : Step) (before after : Bool) → Q ≡ s ∷ P
    → before ≡ happens rare P → after ≡ (is_in_step rare s || before) → after ≡ happens rare Q
happens_more rare P Q s before after grown so_far now =
    now ∙ ap (λ (b : Bool). is_in_step rare s || b) so_far
    ∙ ap (λ (R : List Step). happens rare R) (sym grown)
