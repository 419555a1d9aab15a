-- The steps of a story, and those of one maker among them.
use Rattle.std.proofs.Common.{◌≡◌, ℕ, Bool, true, false, cond, ◌&&◌, ◌||◌, List, [], ◌∷◌, refl, ◌∙◌}
use Rattle.std.proofs.Common.{ap, ◌==◌}
use Rattle.journal.specs.declared.by.By.{By}
use Rattle.journal.specs.declared.by.By.TheVariants.{Actor, Pump}
use Rattle.journal.specs.declared.effect.Step.{Step}
use Rattle.journal.specs.History.{has_ended, is_by, is_end}
use Rattle.journal.specs.Shapes.{Shape}
use Rattle.turn_lock.specs.declared.story.Made.{Made}
use Rattle.turn_lock.specs.Stories.{made_by}
use Rattle.linx_api.specs.Telling.{made_steps, maker_number, numbered, steps_in}

-- the steps of the story that a history tells are the history
pub steps_in-told : (shape : Shape) (P : List Step) → steps_in (made_steps shape P) ≡ P
steps_in-told shape [] = refl
steps_in-told shape (s ∷ P) = ap (λ l. s ∷ l) (steps_in-told shape P)

-- a step of actor k has the number k
apart : (shape : Shape) (k : ℕ) (by : By) → (maker_number shape by == k) ≡ false
    → is_by by k ≡ false
apart shape k (Actor a) e = e
apart shape k (Pump link) e = refl

-- a step more, if it is kept
kept : (k : ℕ) (b : Bool) (m : Made Step) (rest : List (Made Step))
    → (b ≡ false → is_by m.step.by k ≡ false)
    → has_ended (steps_in (cond b (m ∷ rest) rest)) k
    ≡ ((is_by m.step.by k && is_end m.step.head) || has_ended (steps_in rest) k)
kept k true m rest h = refl
kept k false m rest h = rw (h refl) refl

-- WHETHER AN ACTOR HAS ENDED is told by its own steps
pub own-ended : (shape : Shape) (k : ℕ) (P : List Step)
    → has_ended (steps_in (made_by k (made_steps shape P))) k ≡ has_ended P k
own-ended shape k [] = refl
own-ended shape k (s ∷ P) =
    kept k (maker_number shape s.by == k) (numbered shape s) (made_by k (made_steps shape P))
    (apart shape k s.by)
    ∙ ap (λ b. (is_by s.by k && is_end s.head) || b) (own-ended shape k P)
