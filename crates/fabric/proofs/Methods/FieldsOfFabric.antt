-- The fabric as its methods see it: by their fields, and by what is now of its trunks once they
-- were told, which stays.
use Rattle.std.proofs.Common.{◌≡◌, ℕ, List, refl, sym, ◌∙◌, ap, subst, ◌++◌, length, take, drop}
use Rattle.journal.specs.Logs.{Log}
use Rattle.journal.specs.Shapes.{Shape}
use Rattle.run_trunks.specs.States.{TrunksState, kept}
use Rattle.trunk.specs.Events.{TrunkState}
use Rattle.fabric.specs.Remains.{IsKept, Parts}
use Rattle.fabric.specs.Run.{Layout}
use Rattle.fabric.specs.declared.fabric.Fabric.TheInside.{Inside}
use Rattle.fabric.specs.declared.fabric.Fabric.TheView.{view}
use Rattle.fabric.specs.Actings.{HasMade}
use Rattle.node_kernel.specs.declared.ask.Ask.{Ask}
use Rattle.node_kernel.specs.declared.answers.StepAnswer.{StepAnswer}

-- a fabric's value by its log and its trunks
abbrev pub seen : Shape → Log → TrunksState → Layout
seen shape new T = record {
  shape = record { links = T.links; actors = shape.actors };
  log = new;
  trunks = T.is;
}

-- its parts, by its fields
abbrev pub parts_of : Inside → Parts
parts_of s = record {
  kernels = s.kernels.items;
  booted = s.booted.items;
  standings = s.standings.items;
  lines = s.lines.items;
}

-- the items of a vector of so many, once its first ones were set
abbrev pub refilled : {X : Type 0} → ℕ → List X → List X → List X
refilled count xs now = take count (now ++ drop (length now) xs)

-- A STEP AS ITS METHOD SEES IT: what is kept, and that what was asked for was made and answered
pub record IsMadeSeen (f old : Layout) (new : Log) (then : TrunksState) (next : Parts) (actor : ℕ)
    (ask : Ask) (answer : StepAnswer) : Type 0 where
  pub keeps : IsKept (seen f.shape new then) next × (then.was ≡ then.is)
  pub makes : HasMade old (seen f.shape new then) actor ask answer

-- one that leaves the trunks
pub made-still : (s : Inside) {old : Layout} → view s ≡ old → s.trunks.was ≡ s.trunks.is
    → (new : Log) (next : Parts) (actor : ℕ) (ask : Ask) (answer : StepAnswer)
    → (let g : Layout = seen (view s).shape new s.trunks in
    IsKept g next × HasMade (view s) g actor ask answer
    → IsMadeSeen (view s) old new s.trunks next actor ask answer)
made-still s view_is rests new next actor ask answer made = record {
  keeps = (made.0, rests);
  makes = subst (λ (v : Layout). HasMade v (seen (view s).shape new s.trunks) actor ask answer)
      view_is made.1;
}

-- one whose trunks were told first, where that stays
pub made-told : {f old : Layout} → f ≡ old → (new : Log) (told then : TrunksState)
    (after : List TrunkState) → told.links ≡ f.shape.links → told.is ≡ after → then ≡ kept told
    → (next : Parts) (actor : ℕ) (ask : Ask) (answer : StepAnswer)
    → (let g : Layout = record { shape = f.shape; log = new; trunks = after } in
    IsKept g next × HasMade f g actor ask answer → IsMadeSeen f old new then next actor ask answer)
made-told {f = f} {old = old} view_is new told then after links is then_is next actor ask answer
    made =
    let same : record { shape = f.shape; log = new; trunks = after } ≡ seen f.shape new then =
    rw (then_is, links, is) refl in
    record {
      keeps = (
        subst (λ (g : Layout). IsKept g next) same made.0,
        ap (λ (T : TrunksState). T.was) then_is ∙ sym (ap (λ (T : TrunksState). T.is) then_is),
      );
      makes = subst (λ (g : Layout). HasMade old g actor ask answer) same
          (subst (λ (g : Layout). HasMade g (record { shape = f.shape; log = new; trunks = after })
          actor ask answer) view_is made.1);
    }
