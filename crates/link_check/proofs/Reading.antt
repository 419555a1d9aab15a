-- A PACKET'S LAW WITHOUT A WITNESS: what it brought is the one that its effects tell.
use Rattle.std.proofs.Common.{◌≡◌, ℕ, List, Option, Some, None, refl, sym, ◌∙◌, ap, subst}
use Rattle.std.specs.Prelude.{IsSomeAnd}
use Rattle.linx_base.specs.declared.identity.LinkNo.{LinkNo}
use Rattle.journal.specs.declared.effect.Effect.{Effect}
use Rattle.journal.specs.declared.effect.Step.{Step}
use Rattle.link_laws.specs.Brought.{Brought, MayBring, arrives, brought_at, goes_down, goes_up}
use Rattle.link_laws.specs.Brought.{meets, nothing, parts}
use Rattle.link_laws.specs.Laws.{ArePacketEffects}
use Rattle.link_check.specs.Reading.{brought_by}

-- what is brought is read back from its effects
pub brought-read : (P : List Step) (n : ℕ) (l : LinkNo) (what : Brought)
    → brought_by (brought_at P n l what) ≡ Some what
brought-read P n l nothing = refl
brought-read P n l (goes_up x y) = refl
brought-read P n l (goes_down x) = refl
brought-read P n l (arrives x a b note) = refl
brought-read P n l (meets x a name) = refl
brought-read P n l (parts x a) = refl

-- so there is one witness at most
pub brought-one : (P : List Step) (n : ℕ) (l : LinkNo) (what other : Brought)
    → brought_at P n l what ≡ brought_at P n l other → what ≡ other
brought-one P n l what other same =
    let told : (let o : Option Brought = Some what in o) ≡ Some other =
    sym (brought-read P n l what) ∙ ap brought_by same ∙ brought-read P n l other in
    cc

-- a law on what was read: the effects are exactly its own, and it may come
pub record IsRightlyRead (P : List Step) (n m : ℕ) (l : LinkNo) (es : List Effect)
    (what : Brought) : Type 0 where
  pub effects : es ≡ brought_at P n l what
  pub may : MayBring P n m l what

-- THE LAW OF PACKETS holds exactly where what is read keeps it
pub read-kept : (P : List Step) (n m : ℕ) (l : LinkNo) (es : List Effect)
    → IsSomeAnd (brought_by es) (IsRightlyRead P n m l es) → ArePacketEffects P n m l es
read-kept P n m l es kept = go (brought_by es) kept
  where
    go : (o : Option Brought) → IsSomeAnd o (IsRightlyRead P n m l es) → ArePacketEffects P n m l es
    go None is = absurd is
    go (Some what) is = record { what = what; effects = is.effects; may = is.may }

pub kept-read : (P : List Step) (n m : ℕ) (l : LinkNo) (es : List Effect)
    → ArePacketEffects P n m l es → IsSomeAnd (brought_by es) (IsRightlyRead P n m l es)
kept-read P n m l es kept =
    subst (λ (o : Option Brought). IsSomeAnd o (IsRightlyRead P n m l es))
    (sym (ap brought_by kept.effects ∙ brought-read P n l kept.what))
    (record { effects = kept.effects; may = kept.may })
