-- What holds between the beginning of an event and its end.
use Rattle.std.proofs.Common.{ℕ, zero, suc, ◌≡◌, ◌-◌, List, [], ◌∷◌, length, get_or, set, refl, sym}
use Rattle.std.proofs.Common.{◌∙◌, ap, subst, arith, get_or-set_same, take_all}
use Rattle.std.proofs.lemmas.List.{set-get_or}
use Rattle.linx_base.specs.declared.identity.LinkNo.{LinkNo}
use Rattle.linx_base.specs.declared.identity.Side.{Side}
use Rattle.carrier.specs.Events.{flight_from}
use Rattle.journal.specs.Shapes.{Shape}
use Rattle.link_laws.specs.Ends.{IsLinkOf}
use Rattle.trunk.specs.Events.{TrunkState}
use Rattle.trunk.specs.Parts.{HasOnlyGrownAt}
use Rattle.run_trunks.specs.Changes.{at_link}
use Rattle.run_trunks.specs.Laws.{AreTrunksOf}
use Rattle.run_trunks.specs.States.{OnlyChangedAt, TrunksState, both_at, kept, kept_at, no_trunk}
use Rattle.run_trunks.specs.States.{trunks_of}

-- at rest packets were at most put
grown-still : (from : Side) (t : TrunkState) → HasOnlyGrownAt from (record { was = t; is = t })
grown-still from t = take_all (length (flight_from from t.link)) (flight_from from t.link)
    (omega arith)

pub at-rest-grown : (s : TrunksState) (l : LinkNo) (from : Side) → s.was ≡ s.is
    → HasOnlyGrownAt from (both_at s l)
at-rest-grown s l from rests =
    subst (λ (ts : List TrunkState).
    HasOnlyGrownAt from (record { was = trunks_of s.was l.0; is = trunks_of ts l.0 })) rests
    (grown-still from (trunks_of s.was l.0))

-- ONE PLACE of a list
module _ {X : Type 0} (d : X) where
  -- what is written there, again
  put-twice : (f : X → X) (xs : List X) (k : ℕ) (x : X)
      → set (set xs k x) k (f (get_or (set xs k x) k d)) ≡ set xs k (f x)
  put-twice f [] k x = refl
  put-twice f (y ∷ xs) zero x = refl
  put-twice f (y ∷ xs) (suc k) x = ap (λ l. y ∷ l) (put-twice f xs k x)

  -- one that differs there alone goes on to do so
  put-there : (xs : List X) (k : ℕ) (x v : X)
      → set (set xs k x) k v ≡ set xs k (get_or (set (set xs k x) k v) k d)
  put-there [] k x v = refl
  put-there (y ∷ xs) zero x v = refl
  put-there (y ∷ xs) (suc k) x v = ap (λ l. y ∷ l) (put-there xs k x v)

-- ONE TRUNK
pub reads-changed : (shape : Shape) (l : LinkNo) (change : TrunkState → TrunkState)
    (ts : List TrunkState) → AreTrunksOf shape ts → IsLinkOf shape l
    → trunks_of (at_link l change ts) l.0 ≡ change (trunks_of ts l.0)
reads-changed shape l change ts count of =
    get_or-set_same ts (l.0 - 1) (change (trunks_of ts l.0)) no_trunk
    (omega (arith, of.0, of.1, count))

pub changes-again : (l : LinkNo) (first second : TrunkState → TrunkState) (ts : List TrunkState)
    → at_link l second (at_link l first ts) ≡ at_link l (λ t. second (first t)) ts
changes-again l first second ts =
    put-twice no_trunk second ts (l.0 - 1) (first (trunks_of ts l.0))

pub rests-changed : (s : TrunksState) (l : LinkNo) → s.was ≡ s.is → OnlyChangedAt l s
rests-changed s l rests =
    sym (ap (λ (ts : List TrunkState). set ts (l.0 - 1) (trunks_of s.is l.0)) rests
    ∙ set-get_or s.is (l.0 - 1) no_trunk)

pub changes-there : (s : TrunksState) (l : LinkNo) (change : TrunkState → TrunkState)
    → OnlyChangedAt l s → OnlyChangedAt l (record s { is = at_link l change s.is })
changes-there s l change alone =
    let k : ℕ = l.0 - 1 in
    let v : TrunkState = change (trunks_of s.is l.0) in
    subst (λ (ts : List TrunkState). set ts k v ≡ set s.was k (get_or (set ts k v) k no_trunk))
    (sym alone) (put-there no_trunk s.was k (trunks_of s.is l.0) v)

pub keeps-all : (s : TrunksState) (l : LinkNo) → OnlyChangedAt l s → kept_at l s ≡ kept s
keeps-all s l alone =
    ap (λ (ts : List TrunkState). record s { was = ts }) (sym alone)
