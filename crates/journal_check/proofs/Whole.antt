-- The steps of a journal in order: what a check keeps, and its answer.
use Rattle.std.proofs.Common.{◌≡◌, ℕ, suc, ◌+◌, ◌<◌, ◌≤◌, List, [], ◌∷◌, length, drop, Some, None}
use Rattle.std.proofs.Common.{refl, sym, ◌∙◌, ap, subst, arith, add-one, ◌-◌}
use Rattle.journal.specs.declared.effect.Step.{Step}
use Rattle.journal.specs.Histories.{first_steps}
use Rattle.journal.specs.Shapes.{Shape}
use Rattle.link_laws.specs.Laws.{IsLegal}
use Rattle.journal_check.specs.Faults.{Breaks, IsFault, told_beside}
use Rattle.journal_check.specs.Tables.{AreLeft, IsReady, Known}
use Rattle.journal_check.specs.Told.{IsToldVerdict}
use Rattle.journal_check.specs.declared.law.Broken.{Broken}
use Rattle.journal_check.proofs.Ready.{ready}
use Rattle.journal_check.proofs.Verdicts.{verdict-beside, verdict-broken, verdict-legal}

drop-length : (xs : List Step) → drop (length xs) xs ≡ []
drop-length [] = refl
drop-length (x ∷ xs) = drop-length xs

-- no step, and all of them
pub first-none : (xs : List Step) → first_steps 0 xs ≡ []
first-none xs =
    let all : length xs - 0 ≡ length xs = omega arith in
    ap (λ (n : ℕ). drop n xs) all ∙ drop-length xs

pub first-all : (k : ℕ) (xs : List Step) → length xs ≤ k → first_steps k xs ≡ xs
first-all k xs past =
    let none : length xs - k ≡ 0 = omega arith in ap (λ (n : ℕ). drop n xs) none

-- ONE STEP of the check
module _ (shape : Shape) (steps : List Step) (t : Known) (done : ℕ)
    (left : AreLeft (first_steps done steps) t) (is : t.shape ≡ shape)
    (position : length (first_steps done steps) ≡ done) (few : done < 4294967294) where
  abbrev P : List Step
  P = first_steps done steps

  few-steps : length P < 4294967294
  few-steps = subst (λ (n : ℕ). n < 4294967294) (sym position) few

  pub loop-ready : IsReady t
  loop-ready = ready P t left few-steps

  at : suc (length P) ≡ done + 1
  at = ap suc position ∙ sym (add-one done)

  module _ (s : Step) (next : first_steps (done + 1) steps ≡ s ∷ P) (new : Known) where
    pub loop-left : IsToldVerdict t (done + 1) s new None
        → AreLeft (first_steps (done + 1) steps) new
    loop-left told =
        subst (λ (Q : List Step). AreLeft Q new) (sym next)
        (verdict-legal P t left few-steps s new
        (subst (λ (k : ℕ). IsToldVerdict t k s new None) (sym at) told)).1

    pub loop-shape : IsToldVerdict t (done + 1) s new None → new.shape ≡ shape
    loop-shape told = told.1.shape ∙ is

    pub loop-fault : (wrong : Broken) → IsToldVerdict t (done + 1) s new (Some wrong)
        → IsFault shape steps
        (record { step = done + 1; law = wrong.law; earliest = wrong.earliest })
    loop-fault wrong told =
        let back : done ≡ done + 1 - 1 = omega arith in
        let here : IsToldVerdict t (suc (length P)) s new (Some wrong) =
        subst (λ (k : ℕ). IsToldVerdict t k s new (Some wrong)) (sym at) told in
        record {
          step = s;
          there = next ∙ ap (λ (k : ℕ). s ∷ first_steps k steps) back;
          legal = subst (λ (k : ℕ). IsLegal shape (first_steps k steps)) back
              (subst (λ (x : Shape). IsLegal x P) is left.legal);
          breaks = subst (λ (k : ℕ). Breaks shape (first_steps k steps) s wrong.law) back
              (subst (λ (x : Shape). Breaks x P s wrong.law) is
              (verdict-broken P t left few-steps s new wrong here));
          earliest = verdict-beside P t left few-steps s new wrong here
              ∙ ap (λ (k : ℕ). told_beside wrong.law (first_steps k steps) s) back;
        }

-- and at its end
pub loop-legal : (shape : Shape) (steps : List Step) (t : Known) (done : ℕ)
    → AreLeft (first_steps done steps) t → t.shape ≡ shape → length steps ≤ done
    → IsLegal shape steps
loop-legal shape steps t done left is past =
    subst (λ (x : Shape). IsLegal x steps) is
    (subst (IsLegal t.shape) (first-all done steps past) left.legal)
