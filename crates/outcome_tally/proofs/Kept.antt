-- The outcomes as they are kept, with one that came once more.
use Rattle.std.proofs.Common.{◌≡◌, ◌∙◌, ◌<◌, ◌^◌, ℕ, Bool, true, false, cond, List, [], ◌∷◌, All, Option, None, Some, ap, refl}
use Rattle.std.proofs.Common.{arith, unwrap_or}
use Rattle.std.proofs.lemmas.List.Elements.{All-head, All-tail}
use Rattle.std.specs.Global.{Vec}
use Rattle.std.specs.Map.{lookup}
use Rattle.std.specs.Str.{bytes_eq}
use Rattle.indexmap.specs.IndexMap.{insert_entry}
use Rattle.outcome_tally.specs.Entries.{outcome_in, outcomes_in}
use Rattle.outcome_tally.specs.Few.{AllFew}
use Rattle.outcome_tally.specs.OutcomeParts.{OutcomeParts}
use Rattle.outcome_tally.specs.Outcomes.{again, again_later, times_of, with_later, with_outcome}
use Rattle.outcome_tally.specs.Times.{and_later, never, once_more}
use Rattle.outcome_tally.specs.declared.times.Times.{Times}
use Rattle.outcome_tally.proofs.Joined.{later_alone}

-- the keys of entries are alike where their bytes are
abbrev alike : Vec ℕ → Vec ℕ → Bool
alike first second = bytes_eq first.items second.items

-- ---- how often an outcome came

found_by : (b : Bool) (here : Times) (rest : Option Times) (then : Times) → unwrap_or rest never ≡ then
    → unwrap_or (cond b (Some here) rest) never ≡ cond b here then
found_by true here rest then is = refl
found_by false here rest then is = is

-- what a look-up finds is how often it came
pub times_found : (entries : List (Vec ℕ × Times)) (text : List ℕ)
    → unwrap_or (lookup (λ (k : Vec ℕ). bytes_eq text k.items) entries) never
    ≡ times_of (outcomes_in entries) text
times_found [] text = refl
times_found (e ∷ rest) text =
    found_by (bytes_eq text e.0.items) e.1 (lookup (λ (k : Vec ℕ). bytes_eq text k.items) rest)
    (times_of (outcomes_in rest) text) (times_found rest text)

few_by : (b : Bool) (here then : Times) → here.runs < 2 ^ 63 → then.runs < 2 ^ 63
    → (cond b here then).runs < 2 ^ 63
few_by true here then few also = few
few_by false here then few also = also

-- there is room for one more
pub times_few : (came : List OutcomeParts) (text : List ℕ) → AllFew came
    → (times_of came text).runs < 2 ^ 63
times_few [] text few = omega arith
times_few (o ∷ rest) text few =
    few_by (bytes_eq text o.text) o.times (times_of rest text)
    (All-head (λ (p : OutcomeParts). p.times.runs < 2 ^ 63) o rest few)
    (times_few rest text (All-tail (λ (p : OutcomeParts). p.times.runs < 2 ^ 63) o rest few))

-- ---- once more

kept_by : (b : Bool) (e : Vec ℕ × Times) (rest : List (Vec ℕ × Times)) (seed : ℕ) (then : Times)
    (put : Times → List (Vec ℕ × Times)) (with : List OutcomeParts)
    → outcomes_in (put (once_more then seed)) ≡ with
    → outcomes_in (cond b ((e.0, once_more (cond b e.1 then) seed) ∷ rest)
    (e ∷ put (once_more (cond b e.1 then) seed)))
    ≡ cond b (again (outcome_in e) seed ∷ outcomes_in rest) (outcome_in e ∷ with)
kept_by true e rest seed then put with is = refl
kept_by false e rest seed then put with is =
    ap (λ (l : List OutcomeParts). outcome_in e ∷ l) is

-- the entries, with one of a text that came once more, are the outcomes with it
pub kept : (entries : List (Vec ℕ × Times)) (text : Vec ℕ) (seed : ℕ)
    → outcomes_in (insert_entry alike entries text
    (once_more (times_of (outcomes_in entries) text.items) seed))
    ≡ with_outcome (outcomes_in entries) text.items seed
kept [] text seed = refl
kept (e ∷ rest) text seed =
    kept_by (bytes_eq text.items e.0.items) e rest seed (times_of (outcomes_in rest) text.items)
    (λ (t : Times). insert_entry alike rest text t)
    (with_outcome (outcomes_in rest) text.items seed) (kept rest text seed)

pub with_kept : (entries after : List (Vec ℕ × Times)) (text : Vec ℕ) (seed : ℕ) (times : Times)
    → after ≡ insert_entry alike entries text times
    → times ≡ once_more (times_of (outcomes_in entries) text.items) seed
    → outcomes_in after ≡ with_outcome (outcomes_in entries) text.items seed
with_kept entries after text seed times is came =
    ap outcomes_in (is ∙ ap (λ (t : Times). insert_entry alike entries text t) came)
    ∙ kept entries text seed

-- ---- as often as in later runs

later_by : (b : Bool) (e : Vec ℕ × Times) (rest : List (Vec ℕ × Times)) (later then : Times)
    (put : Times → List (Vec ℕ × Times)) (with : List OutcomeParts)
    → outcomes_in (put (and_later then later)) ≡ with
    → outcomes_in (cond b ((e.0, and_later (cond b e.1 then) later) ∷ rest)
    (e ∷ put (and_later (cond b e.1 then) later)))
    ≡ cond b (again_later (outcome_in e) later ∷ outcomes_in rest) (outcome_in e ∷ with)
later_by true e rest later then put with is = refl
later_by false e rest later then put with is =
    ap (λ (l : List OutcomeParts). outcome_in e ∷ l) is

-- the entries, with one of a text that came so often later, are the outcomes with it
kept_later : (entries : List (Vec ℕ × Times)) (text : Vec ℕ) (later : Times)
    → outcomes_in (insert_entry alike entries text
    (and_later (times_of (outcomes_in entries) text.items) later))
    ≡ with_later (outcomes_in entries) (record { text = text.items; times = later })
kept_later [] text later =
    ap (λ (t : Times). outcome_in (text, t) ∷ []) (later_alone later)
kept_later (e ∷ rest) text later =
    later_by (bytes_eq text.items e.0.items) e rest later (times_of (outcomes_in rest) text.items)
    (λ (t : Times). insert_entry alike rest text t)
    (with_later (outcomes_in rest) (record { text = text.items; times = later }))
    (kept_later rest text later)

pub with_kept_later : (entries after : List (Vec ℕ × Times)) (text : Vec ℕ) (later times : Times)
    → after ≡ insert_entry alike entries text times
    → times ≡ and_later (times_of (outcomes_in entries) text.items) later
    → outcomes_in after
    ≡ with_later (outcomes_in entries) (record { text = text.items; times = later })
with_kept_later entries after text later times is came =
    ap outcomes_in (is ∙ ap (λ (t : Times). insert_entry alike entries text t) came)
    ∙ kept_later entries text later
