-- What a pass knows of its maker's steps stays true while others make steps.
use Rattle.std.proofs.Common.{◌≡◌, ℕ, Bool, true, false, cond, List, [], ◌∷◌, ◌++◌, All, Option}
use Rattle.std.proofs.Common.{Some, None, refl, sym, ◌∙◌, ap, subst, eq-eqb, ◌==◌, true≢false}
use Rattle.std.proofs.lemmas.List.Elements.{All-nil, All-cons, All-head, All-tail, All-weaker}
use Rattle.journal.specs.declared.by.By.{By}
use Rattle.journal.specs.declared.by.By.TheVariants.{Actor, Pump}
use Rattle.journal.specs.declared.effect.Step.{Step}
use Rattle.journal.specs.History.{is_by}
use Rattle.journal.specs.Shapes.{Shape}
use Rattle.script_lang.specs.Parts.{ScriptParts}
use Rattle.actor_run.proofs.Others.{GoesOn}
use Rattle.turn_lock.specs.declared.story.Made.{Made}
use Rattle.turn_lock.specs.Passes.{IsSamePass, PassView}
use Rattle.turn_lock.specs.Stories.{made_by, RestsFor}
use Rattle.fabric.specs.Run.{Layout}
use Rattle.linx_api.specs.Telling.{PlanParts, made_steps, maker_number, plan_of, steps_in, story_of}
use Rattle.linx_api.proofs.Own.{steps_in-told}
use Rattle.stage.specs.declared.player.Player.{Player}
use Rattle.stage.specs.Turns.{shape_of}
use Rattle.stage.proofs.Rounds.PlayersBetweenTurns.{seated-other}
use Rattle.workers.specs.Working.{IsPlayedBy, IsWorking, OwnPlanned, seen}

-- the maker of this number made none of these steps
abbrev pub NoneOf : Shape → ℕ → List Step → Type 0
NoneOf shape n steps = All (λ s. (maker_number shape s.by == n) ≡ false) steps

-- the history goes on from an earlier one, with no step of this maker
abbrev pub GoesOnFor : Shape → ℕ → List Step → List Step → Type 0
GoesOnFor shape n now before =
    (since : List Step) × (now ≡ since ++ before) × NoneOf shape n since

-- each maker's number is that of its step
abbrev AllTold : Shape → List (Made Step) → Type 0
AllTold shape [] = Unit {0}
AllTold shape (m ∷ ms) = (m.maker ≡ maker_number shape m.step.by) × AllTold shape ms

told-all : (shape : Shape) (P : List Step) → AllTold shape (made_steps shape P)
told-all shape [] = tt
told-all shape (s ∷ P) = (refl, told-all shape P)

told-left : (shape : Shape) (xs ys : List (Made Step)) → AllTold shape (xs ++ ys)
    → AllTold shape xs
told-left shape [] ys told = tt
told-left shape (x ∷ xs) ys told = (told.0, told-left shape xs ys told.1)

steps_in-append : (xs ys : List (Made Step)) → steps_in (xs ++ ys) ≡ steps_in xs ++ steps_in ys
steps_in-append [] ys = refl
steps_in-append (x ∷ xs) ys = ap (λ l. x.step ∷ l) (steps_in-append xs ys)

-- where no one of these is of n, n made none of their steps
none-made : (shape : Shape) (n : ℕ) (ms : List (Made Step)) → AllTold shape ms
    → made_by n ms ≡ [] → NoneOf shape n (steps_in ms)
none-made shape n [] told none = All-nil (λ (s : Step). (maker_number shape s.by == n) ≡ false)
none-made shape n (m ∷ ms) told none =
    go (none-made shape n ms told.1) (m.maker == n) refl none
  where
    go : (made_by n ms ≡ [] → NoneOf shape n (steps_in ms)) → (b : Bool) → (m.maker == n) ≡ b
        → cond b (m ∷ made_by n ms) (made_by n ms) ≡ [] → NoneOf shape n (steps_in (m ∷ ms))
    go rest true e h = cc
    go rest false e h =
        All-cons (λ (s : Step). (maker_number shape s.by == n) ≡ false) m.step (steps_in ms)
        (sym (ap (λ (x : ℕ). x == n) told.0) ∙ e) (rest h)

-- WHERE A STORY RESTS FOR A MAKER, its history goes on without it
pub rests-on : (shape : Shape) (n : ℕ) (P : List Step) (front : List (Made Step))
    → RestsFor n (made_steps shape P) front → GoesOnFor shape n P (steps_in front)
rests-on shape n P front rests = (
  steps_in rests.0,
  sym (steps_in-told shape P) ∙ (ap steps_in rests.1 ∙ steps_in-append rests.0 front),
  none-made shape n rests.0
      (told-left shape rests.0 front (subst (AllTold shape) rests.1 (told-all shape P))) rests.2,
)

-- a step that hasn't the number of actor k isn't of actor k
not-by : (shape : Shape) (k : ℕ) (by : By) → (maker_number shape by == k) ≡ false
    → is_by by k ≡ false
not-by shape k (Actor a) apart = apart
not-by shape k (Pump link) apart = refl

-- so for actor k
pub as-actor : (shape : Shape) (k : ℕ) (now before : List Step) → GoesOnFor shape k now before
    → GoesOn k now before
as-actor shape k now before on = (
  on.0,
  on.1,
  All-weaker (λ (s : Step). (maker_number shape s.by == k) ≡ false)
      (λ (s : Step). is_by s.by k ≡ false) (λ s apart. not-by shape k s.by apart) on.0 on.2,
)

module _ (script : ScriptParts) (n : ℕ) where
  since-planned : (since P : List Step) → NoneOf (shape_of script) n since
      → OwnPlanned script n P → OwnPlanned script n (since ++ P)
  since-planned [] P none planned = planned
  since-planned (s ∷ since) P none planned = (
    since-planned since P
        (All-tail (λ (x : Step). (maker_number (shape_of script) x.by == n) ≡ false) s since none)
        planned,
    λ own. absurd (true≢false (sym (eq-eqb (maker_number (shape_of script) s.by) n own)
        ∙ All-head (λ (x : Step). (maker_number (shape_of script) x.by == n) ≡ false) s since
        none)),
  )

  -- A MAKER'S STEPS stay as planned
  pub own-goes_on : (now before : List Step) → GoesOnFor (shape_of script) n now before
      → OwnPlanned script n before → OwnPlanned script n now
  own-goes_on now before on planned =
      subst (OwnPlanned script n) (sym on.1) (since-planned on.0 before on.2 planned)

  -- A PLAYER stays between two turns, or done
  pub played-goes_on : (now before : List Step) → GoesOnFor (shape_of script) n now before
      → (player : Option Player) → IsPlayedBy script before n player
      → IsPlayedBy script now n player
  played-goes_on now before on (Some player) played = (
    played.0,
    seated-other script now before n player (as-actor (shape_of script) n now before on) played.1,
  )
  played-goes_on now before on None played = played

-- WHAT A WORKER KNOWS stays true of what it finds under the lock
module _ (script : ScriptParts) (p : PassView Step PlanParts) (player : Option Player)
    (working : IsWorking script p player) (f : Layout) (plan : plan_of f ≡ p.fixed)
    (rests : RestsFor p.number (story_of f) p.front) where
  pub found-shape : f.shape ≡ shape_of script
  found-shape = ap (λ (q : PlanParts). q.shape) (plan ∙ working.fixed)

  pub found-names : f.log.names ≡ script.names
  found-names = ap (λ (q : PlanParts). q.names) (plan ∙ working.fixed)

  pub found-goes_on : GoesOnFor (shape_of script) p.number f.log.steps (seen p)
  found-goes_on =
      subst (λ (s : Shape). GoesOnFor s p.number f.log.steps (seen p)) found-shape
      (rests-on f.shape p.number f.log.steps p.front rests)

  pub found-planned : OwnPlanned script p.number f.log.steps
  found-planned =
      own-goes_on script p.number f.log.steps (seen p) found-goes_on working.planned

  pub found-played : IsPlayedBy script f.log.steps p.number player
  found-played =
      played-goes_on script p.number f.log.steps (seen p) found-goes_on player working.played

-- the pass that has seen a fabric's steps
abbrev pub having_seen : PassView Step PlanParts → Layout → PassView Step PlanParts
having_seen p f = record p { front = story_of f }

-- it has seen these
pub seen-all : (p : PassView Step PlanParts) (f : Layout) → seen (having_seen p f) ≡ f.log.steps
seen-all p f = steps_in-told f.shape f.log.steps

-- what is given back of the turn that was taken
pub given-back : (p turn after : PassView Step PlanParts) (found left : Layout)
    → turn ≡ having_seen p found → after ≡ having_seen turn left → after ≡ having_seen p left
given-back p turn after found left taken given =
    given ∙ ap (λ (q : PassView Step PlanParts). having_seen q left) taken

-- it is the same pass
pub same-still : (before p : PassView Step PlanParts) (f : Layout) → IsSamePass before p
    → IsSamePass before (having_seen p f)
same-still before p f same = ap (λ (q : PassView Step PlanParts). having_seen q f) same

-- WHAT A WORKER KNOWS after a turn, of the fabric that it gives back
pub working-after : (script : ScriptParts) (p : PassView Step PlanParts) (before : Option Player)
    → IsWorking script p before → (f : Layout) → (player : Option Player)
    → IsPlayedBy script f.log.steps p.number player → OwnPlanned script p.number f.log.steps
    → IsWorking script (having_seen p f) player
working-after script p before working f player played planned = record {
  fixed = working.fixed;
  above = working.above;
  within = working.within;
  played = subst (λ (P : List Step). IsPlayedBy script P p.number player) (sym (seen-all p f))
      played;
  planned = subst (OwnPlanned script p.number) (sym (seen-all p f)) planned;
}

-- AND WHERE NOTHING WAS DONE it knows what it knew
pub working-still : (script : ScriptParts) (p : PassView Step PlanParts) (player : Option Player)
    → IsWorking script p player → (f : Layout) → plan_of f ≡ p.fixed
    → RestsFor p.number (story_of f) p.front → IsWorking script (having_seen p f) player
working-still script p player working f plan rests =
    working-after script p player working f player
    (found-played script p player working f plan rests)
    (found-planned script p player working f plan rests)
