-- That there is room for each count of outcomes which are joined, where there is for what comes of it.
use Rattle.std.proofs.Common.{◌≡◌, ◌∙◌, ◌<◌, ◌+◌, ◌^◌, ℕ, Bool, true, false, cond, List, [], ◌∷◌}
use Rattle.std.proofs.Common.{ap, arith, subst, sym}
use Rattle.std.proofs.lemmas.List.Elements.{All-cons, All-head, All-nil, All-tail}
use Rattle.std.specs.Global.{Vec}
use Rattle.std.specs.Str.{bytes_eq}
use Rattle.outcome_tally.specs.Entries.{outcomes_in}
use Rattle.outcome_tally.specs.Few.{AllFew}
use Rattle.outcome_tally.specs.OutcomeParts.{OutcomeParts}
use Rattle.outcome_tally.specs.Outcomes.{again_later, times_of, with_all, with_later}
use Rattle.outcome_tally.specs.declared.times.Times.{Times}

abbrev HasFew : OutcomeParts → Type 0
HasFew o = o.times.runs < 2 ^ 63

few_by : (b : Bool) (p o : OutcomeParts) (rest with : List OutcomeParts)
    → (AllFew with → AllFew rest)
    → AllFew (cond b (again_later p o.times ∷ rest) (p ∷ with)) → AllFew (p ∷ rest)
few_by true p o rest with before few =
    let both : p.times.runs + o.times.runs < 2 ^ 63 =
    All-head HasFew (again_later p o.times) rest few in
    All-cons HasFew p rest (omega arith) (All-tail HasFew (again_later p o.times) rest few)
few_by false p o rest with before few =
    All-cons HasFew p rest (All-head HasFew p with few) (before (All-tail HasFew p with few))

few_before_one : (came : List OutcomeParts) (o : OutcomeParts) → AllFew (with_later came o)
    → AllFew came
few_before_one [] o few = All-nil HasFew
few_before_one (p ∷ rest) o few =
    few_by (bytes_eq o.text p.text) p o rest (with_later rest o) (few_before_one rest o) few

few_before_all : (later came : List OutcomeParts) → AllFew (with_all came later) → AllFew came
few_before_all [] came few = few
few_before_all (o ∷ later) came few =
    few_before_one came o (few_before_all later (with_later came o) few)

both_by : (b : Bool) (p o : OutcomeParts) (rest with : List OutcomeParts) (then : Times)
    → (AllFew with → then.runs + o.times.runs < 2 ^ 63)
    → AllFew (cond b (again_later p o.times ∷ rest) (p ∷ with))
    → (cond b p.times then).runs + o.times.runs < 2 ^ 63
both_by true p o rest with then before few = All-head HasFew (again_later p o.times) rest few
both_by false p o rest with then before few = before (All-tail HasFew p with few)

both_few : (came : List OutcomeParts) (o : OutcomeParts) → AllFew (with_later came o)
    → (times_of came o.text).runs + o.times.runs < 2 ^ 63
both_few [] o few =
    let alone : o.times.runs < 2 ^ 63 = All-head HasFew o [] few in
    omega arith
both_few (p ∷ rest) o few =
    both_by (bytes_eq o.text p.text) p o rest (with_later rest o) (times_of rest o.text)
    (both_few rest o) few

next_few : (came : List OutcomeParts) (o : OutcomeParts) (later : List OutcomeParts)
    → AllFew (with_all came (o ∷ later))
    → (times_of came o.text).runs + o.times.runs < 2 ^ 63
next_few came o later few = both_few came o (few_before_all later (with_later came o) few)

-- there is room for the next one of the later outcomes
pub room_for_next : (all came : List OutcomeParts) (entries next : List (Vec ℕ × Times))
    (text : Vec ℕ) (times : Times) → AllFew all → with_all came (outcomes_in entries) ≡ all
    → entries ≡ (text, times) ∷ next
    → (times_of came text.items).runs + times.runs < 2 ^ 63
room_for_next all came entries next text times few is first =
    next_few came (record { text = text.items; times = times }) (outcomes_in next)
    (subst AllFew
    (sym is ∙ ap (λ (l : List (Vec ℕ × Times)). with_all came (outcomes_in l)) first) few)
