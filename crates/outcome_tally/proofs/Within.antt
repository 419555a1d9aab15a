-- That nothing came in more runs than there are, so that there is room for each count.
use Rattle.std.proofs.Common.{◌≡◌, ◌<◌, ◌≤◌, ◌+◌, ◌^◌, ℕ, Bool, true, false, cond, List, []}
use Rattle.std.proofs.Common.{◌∷◌, All, Option, Some, None, arith, length, refl}
use Rattle.std.proofs.lemmas.List.Elements.{All-cons, All-head, All-nil, All-tail}
use Rattle.std.proofs.lemmas.List.Elements.{All-weaker}
use Rattle.std.specs.Str.{bytes_eq}
use Rattle.run_outcomes.specs.SeenParts.{SeenParts}
use Rattle.outcome_tally.specs.Few.{AllFew, IsFew, RaresFew}
use Rattle.outcome_tally.specs.OutcomeParts.{OutcomeParts}
use Rattle.outcome_tally.specs.Outcomes.{again, with_outcome}
use Rattle.outcome_tally.specs.RareTimes.{with_rares}
use Rattle.outcome_tally.specs.Tallies.{Ran, tally_of, with_came}
use Rattle.outcome_tally.specs.TallyParts.{TallyParts}
use Rattle.outcome_tally.specs.Times.{never, noted, once_more}
use Rattle.outcome_tally.specs.declared.rare_times.RareTimes.{RareTimes}
use Rattle.outcome_tally.specs.declared.times.Times.{Times}
use Rattle.run_outcomes.specs.declared.rare.Rares.{Rares}

-- ---- the rare things

-- each of them came in at most so many runs
record RaresWithin (most : ℕ) (t : RareTimes) : Type 0 where
  refused : t.refused.runs ≤ most
  found_none : t.found_none.runs ≤ most
  dead : t.dead.runs ≤ most
  closed : t.closed.runs ≤ most
  lost : t.lost.runs ≤ most
  down : t.down.runs ≤ most

-- what came in at most so many came in at most one more
noted-within : (t : Times) (came : Bool) (seed most : ℕ) → t.runs ≤ most
    → (noted t came seed).runs ≤ most + 1
noted-within t true seed most within = omega arith
noted-within t false seed most within = omega arith

rares-within : (t : RareTimes) (rares : Rares) (seed most : ℕ) → RaresWithin most t
    → RaresWithin (most + 1) (with_rares t rares seed)
rares-within t rares seed most is = record {
  refused = noted-within t.refused rares.refused seed most is.refused;
  found_none = noted-within t.found_none rares.found_none seed most is.found_none;
  dead = noted-within t.dead rares.dead seed most is.dead;
  closed = noted-within t.closed rares.closed seed most is.closed;
  lost = noted-within t.lost rares.lost seed most is.lost;
  down = noted-within t.down rares.down seed most is.down;
}

rares-more : (t : RareTimes) (most : ℕ) → RaresWithin most t → RaresWithin (most + 1) t
rares-more t most is = record {
  refused = omega (arith, is.refused);
  found_none = omega (arith, is.found_none);
  dead = omega (arith, is.dead);
  closed = omega (arith, is.closed);
  lost = omega (arith, is.lost);
  down = omega (arith, is.down);
}

rares-few : (t : RareTimes) (most : ℕ) → most < 2 ^ 63 → RaresWithin most t → RaresFew t
rares-few t most few is = record {
  refused = omega (arith, is.refused);
  found_none = omega (arith, is.found_none);
  dead = omega (arith, is.dead);
  closed = omega (arith, is.closed);
  lost = omega (arith, is.lost);
  down = omega (arith, is.down);
}

-- ---- the outcomes

-- an outcome came in at most so many runs
abbrev HasWithin : ℕ → OutcomeParts → Type 0
HasWithin most o = o.times.runs ≤ most

-- each of these did
abbrev AllWithin : ℕ → List OutcomeParts → Type 0
AllWithin most came = All (HasWithin most) came

all-more : (came : List OutcomeParts) (most : ℕ) → AllWithin most came
    → AllWithin (most + 1) came
all-more came most is =
    All-weaker (HasWithin most) (HasWithin (most + 1))
    (λ (o : OutcomeParts) (within : o.times.runs ≤ most). omega arith) came is

by-within : (b : Bool) (o : OutcomeParts) (rest with : List OutcomeParts) (seed most : ℕ)
    → AllWithin most (o ∷ rest) → AllWithin (most + 1) with
    → AllWithin (most + 1) (cond b (again o seed ∷ rest) (o ∷ with))
by-within true o rest with seed most is also =
    let within : o.times.runs ≤ most = All-head (HasWithin most) o rest is in
    All-cons (HasWithin (most + 1)) (again o seed) rest (omega arith)
    (all-more rest most (All-tail (HasWithin most) o rest is))
by-within false o rest with seed most is also =
    let within : o.times.runs ≤ most = All-head (HasWithin most) o rest is in
    All-cons (HasWithin (most + 1)) o with (omega arith) also

all-within : (came : List OutcomeParts) (text : List ℕ) (seed most : ℕ) → AllWithin most came
    → AllWithin (most + 1) (with_outcome came text seed)
all-within [] text seed most is =
    All-cons (HasWithin (most + 1)) (record { text = text; times = once_more never seed }) []
    (omega arith) (All-nil (HasWithin (most + 1)))
all-within (o ∷ rest) text seed most is =
    by-within (bytes_eq text o.text) o rest (with_outcome rest text seed) seed most is
    (all-within rest text seed most (All-tail (HasWithin most) o rest is))

all-few : (came : List OutcomeParts) (most : ℕ) → most < 2 ^ 63 → AllWithin most came
    → AllFew came
all-few came most few is =
    All-weaker (HasWithin most) (λ (o : OutcomeParts). o.times.runs < 2 ^ 63)
    (λ (o : OutcomeParts) (within : o.times.runs ≤ most). omega arith) came is

-- ---- the whole

-- nothing came in more runs than there are
record IsWithin (t : TallyParts) : Type 0 where
  full : t.full.runs ≤ t.runs
  came : AllWithin t.runs t.came
  rares : RaresWithin t.runs t.rares

came-within : (t : TallyParts) (seed : ℕ) (seen : Option SeenParts) → IsWithin t
    → IsWithin (with_came t seed seen)
came-within t seed None is = record {
  full = omega (arith, is.full);
  came = all-more t.came t.runs is.came;
  rares = rares-more t.rares t.runs is.rares;
}
came-within t seed (Some seen) is = record {
  full = omega (arith, is.full);
  came = all-within t.came seen.outcome seed t.runs is.came;
  rares = rares-within t.rares seen.rares seed t.runs is.rares;
}

tally-within : (rans : List Ran) → IsWithin (tally_of rans)
tally-within [] = record {
  full = omega arith;
  came = All-nil (HasWithin 0);
  rares = record {
    refused = omega arith;
    found_none = omega arith;
    dead = omega arith;
    closed = omega arith;
    lost = omega arith;
    down = omega arith;
  };
}
tally-within (r ∷ before) = came-within (tally_of before) r.seed r.seen (tally-within before)

runs-came : (t : TallyParts) (seed : ℕ) (seen : Option SeenParts)
    → (with_came t seed seen).runs ≡ t.runs + 1
runs-came t seed None = refl
runs-came t seed (Some seen) = refl

-- a tally counts its runs
runs-tally : (rans : List Ran) → (tally_of rans).runs ≡ length rans
runs-tally [] = refl
runs-tally (r ∷ before) =
    omega (arith, runs-came (tally_of before) r.seed r.seen, runs-tally before)

few-within : (t : TallyParts) → t.runs < 2 ^ 63 → IsWithin t → IsFew t
few-within t few is = record {
  runs = few;
  full = omega (arith, is.full);
  came = all-few t.came t.runs few is.came;
  rares = rares-few t.rares t.runs few is.rares;
}

-- THE TALLY OF FEW RUNS has room for one more
pub few_of : (rans : List Ran) → length rans < 2 ^ 63 → IsFew (tally_of rans)
few_of rans few =
    few-within (tally_of rans) (omega (arith, runs-tally rans)) (tally-within rans)
