-- States of two runs that are alike, and states that go on from others.
use Rattle.std.proofs.Common.{◌≡◌, ◌⊎◌, true, List, [], ◌∷◌, ◌++◌, refl, sym, ◌∙◌, ap, subst, inl}
use Rattle.std.proofs.Common.{inr, append_assoc, true≢false}
use Rattle.journal.specs.Logs.{Log, is_full}
use Rattle.journal.specs.Shapes.{Shape}
use Rattle.journal.specs.declared.effect.Step.{Step}
use Rattle.trunk.specs.Events.{TrunkState}
use Rattle.trunk_moves.specs.Trunks.{Become, RunTrunks}
use Rattle.run_trunks.specs.States.{trunks_of}
use Rattle.script_lang.specs.Parts.{ScriptParts}
use Rattle.fabric.specs.Run.{Layout}
use Rattle.stage.specs.Plays.{IsScriptRun}
use Rattle.stage.specs.Turns.{shape_of}

-- two states that are alike: on this shape, with one log and the same trunks of its links
pub record AreAlike (shape : Shape) (one two : Layout) : Type 0 where
  pub first : one.shape ≡ shape
  pub second : two.shape ≡ shape
  pub log : one.log ≡ two.log
  pub trunks : Become shape (trunks_of one.trunks) (trunks_of two.trunks)

-- a state of these parts
abbrev pub state : Shape → Log → List TrunkState → Layout
state shape log trunks = record { shape = shape; log = log; trunks = trunks }

module _ (shape : Shape) where
  -- each state is alike itself, and two are in either order
  pub alike-same : (f : Layout) → f.shape ≡ shape → AreAlike shape f f
  alike-same f is = record { first = is; second = is; log = refl; trunks = λ l of_shape. refl }

  pub alike-turned : (one two : Layout) → AreAlike shape one two → AreAlike shape two one
  alike-turned one two alike = record {
    first = alike.second;
    second = alike.first;
    log = sym alike.log;
    trunks = λ l of_shape. sym (alike.trunks l of_shape);
  }

  -- where each of two is one of two that are alike
  pub alike-as : (one two new_one new_two : Layout) → AreAlike shape one two → new_one ≡ one
      → new_two ≡ two → AreAlike shape new_one new_two
  alike-as one two new_one new_two alike one_is two_is =
      subst (λ (f : Layout). AreAlike shape f new_two) (sym one_is)
      (subst (AreAlike shape one) (sym two_is) alike)

  -- WHAT HOLDS of states that differ in their trunks alone holds of all that are alike
  pub by-alike : (P : Layout → Layout → Type 0)
      → ((log : Log) (first second : List TrunkState)
      → Become shape (trunks_of first) (trunks_of second)
      → P (state shape log first) (state shape log second))
      → (one two : Layout) → AreAlike shape one two → P one two
  by-alike P holds one two alike =
      subst (P one) two_is
      (subst (λ (f : Layout). P f (state shape one.log two.trunks)) one_is
      (holds one.log one.trunks two.trunks alike.trunks))
    where
      one_is : state shape one.log one.trunks ≡ one
      one_is = ap (λ (s : Shape). state s one.log one.trunks) (sym alike.first)

      two_is : state shape one.log two.trunks ≡ two
      two_is =
          ap (λ (log : Log). state shape log two.trunks) alike.log
          ∙ ap (λ (s : Shape). state s two.log two.trunks) (sym alike.second)

-- ---- going on

-- steps were added, one at least
pub record IsLonger (old new : Layout) : Type 0 where
  pub step : Step
  pub more : List Step
  pub steps : new.log.steps ≡ step ∷ (more ++ old.log.steps)

-- nothing has changed, or steps were added
abbrev pub Grows : Layout → Layout → Type 0
Grows old new = (new ≡ old) ⊎ IsLonger old new

-- a state that is alike, or one with more steps
abbrev pub GoesOn : Shape → Layout → Layout → Type 0
GoesOn shape one two = AreAlike shape one two ⊎ IsLonger one two

-- by one step; by more; and what has the log of such a state
pub longer-one : (old new : Layout) (s : Step) → new.log.steps ≡ s ∷ old.log.steps
    → IsLonger old new
longer-one old new s is = record { step = s; more = []; steps = is }

pub longer-on : (a b c : Layout) → IsLonger a b → IsLonger b c → IsLonger a c
longer-on a b c one two = record {
  step = two.step;
  more = two.more ++ one.step ∷ one.more;
  steps = two.steps
      ∙ ap (λ (P : List Step). two.step ∷ (two.more ++ P)) one.steps
      ∙ ap (λ (P : List Step). two.step ∷ P)
      (sym (append_assoc two.more (one.step ∷ one.more) a.log.steps));
}

pub longer-as : (a b c d : Layout) → a.log ≡ b.log → IsLonger b c → c.log ≡ d.log → IsLonger a d
longer-as a b c d first more second = record {
  step = more.step;
  more = more.more;
  steps = ap (λ (log : Log). log.steps) (sym second)
      ∙ more.steps
      ∙ ap (λ (log : Log). more.step ∷ (more.more ++ log.steps)) (sym first);
}

pub grows-on : (a b c : Layout) → Grows a b → Grows b c → Grows a c
grows-on a b c (inl same) (inl again) = inl (again ∙ same)
grows-on a b c (inl same) (inr more) =
    inr (subst (λ (f : Layout). IsLonger f c) same more)
grows-on a b c (inr more) (inl same) = inr (subst (IsLonger a) (sym same) more)
grows-on a b c (inr more) (inr again) = inr (longer-on a b c more again)

module _ (shape : Shape) where
  pub alike-grows : (a b c : Layout) → AreAlike shape a b → Grows b c → GoesOn shape a c
  alike-grows a b c alike (inl same) = inl (subst (AreAlike shape a) (sym same) alike)
  alike-grows a b c alike (inr more) = inr (longer-as a b c c alike.log more refl)

  pub goes-grows : (a b c : Layout) → GoesOn shape a b → Grows b c → GoesOn shape a c
  goes-grows a b c (inl alike) grows = alike-grows a b c alike grows
  goes-grows a b c (inr more) (inl same) = inr (subst (IsLonger a) (sym same) more)
  goes-grows a b c (inr more) (inr again) = inr (longer-on a b c more again)

-- ---- a full journal

-- a run of a script goes on from no full journal
full-ends : (script : ScriptParts) (s : Step) (more P : List Step) (trunks : RunTrunks)
    → IsScriptRun script (s ∷ (more ++ P)) trunks → is_full P ≡ true → ⊥
full-ends script s [] P trunks run full = true≢false (sym full ∙ run.1.1.made.room)
full-ends script s (t ∷ more) P trunks run full = full-ends script t more P run.0 run.1.0 full

-- so what goes on from one is alike
pub full-stays : (script : ScriptParts) (one two : Layout) → is_full one.log.steps ≡ true
    → IsScriptRun script two.log.steps (trunks_of two.trunks)
    → GoesOn (shape_of script) one two → AreAlike (shape_of script) one two
full-stays script one two full run (inl alike) = alike
full-stays script one two full run (inr more) =
    absurd (full-ends script more.step more.more one.log.steps (trunks_of two.trunks)
    (subst (λ (P : List Step). IsScriptRun script P (trunks_of two.trunks)) more.steps run) full)
