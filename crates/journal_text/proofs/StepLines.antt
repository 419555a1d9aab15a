-- The lines of steps, in order.
use Rattle.std.proofs.Common.{◌≡◌, ◌≢◌, ℕ, suc, ◌+◌, List, [], ◌∷◌, ◌++◌, length, refl, ◌∙◌, sym}
use Rattle.std.proofs.Common.{ap, append_assoc, arith, append-nil}
use Rattle.linx_base.specs.declared.name.Names.{Names}
use Rattle.journal.specs.declared.effect.Step.{Step}
use Rattle.journal.specs.Logs.{Log}
use Rattle.journal.specs.Histories.{first_steps}
use Rattle.journal_text.specs.Values.{Digest}
use Rattle.journal_text.specs.Steps.{step_text}
use Rattle.journal_text.specs.Blocks.{logs_text}
use Rattle.journal_text.specs.Text.{steps_text, count_text, text_if_steps, text_by}
use Rattle.journal.proofs.Positions.{first_steps_none}

-- no step, no line
pub steps_text_none : (digest : Digest) (names : Names) (S : List Step) (old : List ℕ)
    → old ≡ old ++ steps_text digest names (first_steps 0 S)
unfolding steps_text
steps_text_none digest names S old =
    sym (append-nil old) ∙ ap (λ (P : List Step). old ++ steps_text digest names P)
    (sym (first_steps_none S))

-- one step more
pub steps_text_more : (digest : Digest) (names : Names) (P Q : List Step) (s : Step) (k : ℕ)
    (old before after : List ℕ) → Q ≡ s ∷ P → length P ≡ k → before ≡ old ++ steps_text digest names P
    → after ≡ before ++ step_text digest names (k + 1) s → after ≡ old ++ steps_text digest names Q
unfolding steps_text
steps_text_more digest names P Q s k old before after grown count so_far now =
    let position : k + 1 ≡ suc (length P) = omega arith in
    now ∙ ap (λ (b : List ℕ). b ++ step_text digest names (k + 1) s) so_far
    ∙ append_assoc old (steps_text digest names P) (step_text digest names (k + 1) s)
    ∙ ap (λ (n : ℕ). old ++ (steps_text digest names P ++ step_text digest names n s)) position
    ∙ ap (λ (R : List Step). old ++ steps_text digest names R) (sym grown)

-- the text of a journal with steps
pub text_by-steps : (digest : Digest) (log : Log) → log.steps ≢ []
    → text_by digest log ≡ logs_text digest log ++ count_text (length log.steps) ++ steps_text digest log.names log.steps
text_by-steps digest log some = by_cases log.steps some
  where
    by_cases : (P : List Step) → P ≢ []
        → text_if_steps digest log P ≡ logs_text digest log ++ count_text (length log.steps)
        ++ steps_text digest log.names log.steps
    by_cases [] some = absurd (some refl)
    by_cases (s ∷ P) some = refl
