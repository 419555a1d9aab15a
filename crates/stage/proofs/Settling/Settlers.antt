-- Who settles a link, by the last step alone.
use Rattle.std.proofs.Common.{◌≡◌, ℕ, suc, Bool, true, false, List, [], ◌∷◌, length, Option, Some}
use Rattle.std.proofs.Common.{None, refl, sym, ap, subst, ◌==◌, is_some, if◌then◌else◌, eq-eqb}
use Rattle.std.proofs.Common.{true≢false}
use Rattle.journal.specs.declared.by.By.{By}
use Rattle.journal.specs.declared.by.By.TheVariants.{Actor, Pump}
use Rattle.journal.specs.declared.effect.Effect.{Effect}
use Rattle.journal.specs.declared.effect.Step.{Step}
use Rattle.journal.specs.declared.head.Head.{Head}
use Rattle.journal.specs.declared.head.Head.TheVariants as heads
use Rattle.journal.specs.Logs.{step_at}
use Rattle.run_trunks.specs.States.{trunks_of}
use Rattle.fabric.specs.Run.{Layout}
use Rattle.stage.specs.Settlings.{Settler, if_stirs, settler_after, settler_by, settler_in}
use Rattle.stage.specs.Settlings.{settler_of}

-- a settle cuts no link
same_settler : (P : List Step) (by : By) (es : List Effect) (k : ℕ) (head : Head)
    → settler_by P k head
    ≡ settler_by ((let s : Step = record { by = by; head = head; effects = es } in s) ∷ P) k head
same_settler P by es k heads.Close = refl
same_settler P by es k _ = refl

after_same : (P : List Step) (by : By) (head : Head) (es : List Effect)
    → settler_after P by head
    ≡ settler_after ((let s : Step = record { by = by; head = head; effects = es } in s) ∷ P) by
    head
after_same P (Actor k) head es = same_settler P (Actor k) es k head
after_same P (Pump l) head es = refl

same_step : {s t : Step} → Some s ≡ Some t → s ≡ t
same_step is = cc

chosen : {X : Type 0} (b : Bool) (x y z : X) → b ≡ true → (if b then x else y) ≡ z → x ≡ z
chosen true x y z on is = is
chosen false x y z on is = absurd (true≢false (sym on))

-- the step at the end is the last one
step-last : (P : List Step) (s : Step) (o : Option Step) → step_at (s ∷ P) (length (s ∷ P)) ≡ o
    → Some s ≡ o
step-last P s o is =
    chosen (suc (length P) == suc (length P)) (Some s) (step_at P (suc (length P))) o
    (eq-eqb (suc (length P)) (suc (length P)) refl) is

-- WHERE THERE IS A LAST STEP it tells
pub last-settles : (P : List Step) (s : Step) → step_at P (length P) ≡ Some s
    → settler_of P ≡ settler_after P s.by s.head
last-settles [] s is = cc
last-settles (x ∷ P) s is =
    subst (λ (t : Step). settler_of (x ∷ P) ≡ settler_after (x ∷ P) t.by t.head)
    (same_step (step-last P x (Some s) is)) (after_same P x.by x.head x.effects)

-- and where there is none nobody settles one
pub none-settles_last : (P : List Step) → step_at P (length P) ≡ None → settler_of P ≡ None
none-settles_last [] is = refl
none-settles_last (x ∷ P) is = let here : Some x ≡ None = step-last P x None is in cc

-- so it tells whether somebody settles one now
pub last-tells : (f : Layout) (s : Step)
    → step_at f.log.steps (length f.log.steps) ≡ Some s
    → is_some (settler_in f)
    ≡ is_some (if_stirs f.shape f.log.steps (trunks_of f.trunks)
    (settler_after f.log.steps s.by s.head))
last-tells f s found =
    ap (λ (o : Option Settler). is_some (if_stirs f.shape f.log.steps (trunks_of f.trunks) o))
    (last-settles f.log.steps s found)

pub none-tells : (f : Layout) → step_at f.log.steps (length f.log.steps) ≡ None
    → is_some (settler_in f) ≡ false
none-tells f none =
    ap (λ (o : Option Settler). is_some (if_stirs f.shape f.log.steps (trunks_of f.trunks) o))
    (none-settles_last f.log.steps none)
