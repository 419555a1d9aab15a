-- The maker of each step of a fabric's story.
use Rattle.std.proofs.Common.{◌≡◌, ◌≢◌, ℕ, suc, ◌<◌, ◌≤◌, ◌+◌, ◌-◌, cond, List, [], ◌∷◌, length}
use Rattle.std.proofs.Common.{map, Some, None, refl, sym, ◌∙◌, ap, subst, arith, eq-eqb, ne_eqb}
use Rattle.std.proofs.Common.{slice_get}
use mathlib.Core.Logic.{dite}
use native.Mathlib.Decide.{ℕ_discrete}
use Rattle.journal.specs.declared.by.By.{By}
use Rattle.journal.specs.declared.by.By.TheVariants.{Actor, Pump}
use Rattle.journal.specs.declared.effect.Step.{Step}
use Rattle.journal.specs.Laws.{IsMaker}
use Rattle.journal.specs.Logs.{step_at}
use Rattle.journal.specs.Shapes.{Shape}
use Rattle.link_laws.specs.Laws.{IsLegal}
use Rattle.turn_lock.specs.declared.story.Made.{Made}
use Rattle.linx_api.specs.Telling.{made_steps, maker_number}

-- the numbers of the makers that a history tells
abbrev pub numbers : Shape → List Step → List ℕ
numbers shape P = map (λ (m : Made Step). m.maker) (made_steps shape P)

-- a step that was made, at its position and in the story
pub record IsThere (shape : Shape) (P : List Step) (k : ℕ) : Type 0 where
  pub step : Step
  pub stands : step_at P k ≡ Some step
  pub told : slice_get (numbers shape P) (length P - k) ≡ Some (maker_number shape step.by)

at_top : (s : Step) (P : List Step) (k : ℕ) → k ≡ suc (length P) → step_at (s ∷ P) k ≡ Some s
at_top s P k e = ap (λ b. cond b (Some s) (step_at P k)) (eq-eqb k (suc (length P)) e)

below_top : (s : Step) (P : List Step) (k : ℕ) → k ≢ suc (length P)
    → step_at (s ∷ P) k ≡ step_at P k
below_top s P k ne = ap (λ b. cond b (Some s) (step_at P k)) (ne_eqb k (suc (length P)) ne)

-- at each position that was made a step stands
pub stands-told : (shape : Shape) (P : List Step) (k : ℕ) → 0 < k → k ≤ length P
    → IsThere shape P k
stands-told shape [] k low high = absurd (omega arith)
stands-told shape (s ∷ P) k low high = dite (ℕ_discrete k (suc (length P)))
    (λ e. let newest : suc (length P) - k ≡ 0 = omega arith in
    record {
      step = s;
      stands = at_top s P k e;
      told = rw newest refl;
    })
    (λ ne. let there = stands-told shape P k low (omega arith) in
    let older : suc (length P) - k ≡ suc (length P - k) = omega arith in
    record {
      step = there.step;
      stands = below_top s P k ne ∙ there.stands;
      told = rw older there.told;
    })

-- the step that stands there is the one that is found there
pub there-found : (shape : Shape) (P : List Step) (k : ℕ) (s : Step) → IsThere shape P k
    → step_at P k ≡ Some s
    → slice_get (numbers shape P) (length P - k) ≡ Some (maker_number shape s.by)
there-found shape P k s there is =
    let both : Some there.step ≡ Some s = sym there.stands ∙ is in
    let same : there.step ≡ s = cc in
    there.told ∙ ap (λ (x : Step). Some (maker_number shape x.by)) same

pub there-none : (shape : Shape) (P : List Step) (k : ℕ) → IsThere shape P k
    → step_at P k ≡ None → ⊥
there-none shape P k there none =
    let bad : Some there.step ≡ None = sym there.stands ∙ none in cc

-- the makers of a fabric are no more than the passes of a lock
abbrev HasFewMakers : Shape → Type 0
HasFewMakers shape = length shape.actors + length shape.links ≤ 96

-- the number of a maker is small
few : (shape : Shape) (P : List Step) → HasFewMakers shape → (by : By) → IsMaker shape P by
    → maker_number shape by ≤ 96
few shape P most (Actor a) maker = let within = maker.1 in omega arith
few shape P most (Pump link) maker = let within = maker.1 in omega arith

pub number-small : (shape : Shape) (P : List Step) (k : ℕ) (s : Step) → HasFewMakers shape
    → IsLegal shape P → step_at P k ≡ Some s → maker_number shape s.by ≤ 96
number-small shape [] k s most legal is = let bad : None ≡ Some s = is in cc
number-small shape (x ∷ P) k s most legal is = dite (ℕ_discrete k (suc (length P)))
    (λ e. let both : Some x ≡ Some s = sym (at_top x P k e) ∙ is in
    let same : x ≡ s = cc in
    subst (λ (y : Step). maker_number shape y.by ≤ 96) same
    (few shape P most x.by legal.1.nodes.makers.maker))
    (λ ne. number-small shape P k s most legal.0 (sym (below_top x P k ne) ∙ is))
