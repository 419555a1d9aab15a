-- THE TALLY OF SOME RUNS AND OF LATER ONES is that of the ones, joined with that of the others.
use Rattle.std.proofs.Common.{◌≡◌, ◌∙◌, ◌+◌, ℕ, Bool, true, false, cond, List, [], ◌∷◌, ◌++◌, All}
use Rattle.std.proofs.Common.{Option, None, Some, ap, arith, is_some, nat_lt, refl, subst, sym, unwrap_or}
use Rattle.std.specs.Option.{option_or}
use Rattle.std.specs.Str.{bytes_eq}
use Rattle.std.proofs.lemmas.Bool.{cond-false, cond-true}
use Rattle.std.proofs.lemmas.Bool.Decides.{nat_tests}
use Rattle.std.proofs.lemmas.List.Elements.{All-cons, All-head, All-nil, All-tail}
use Rattle.std.proofs.lemmas.Slice.Eq.{bytes_eq-Decides}
use Rattle.run_outcomes.specs.SeenParts.{SeenParts}
use Rattle.run_outcomes.specs.declared.rare.Rares.{Rares}
use Rattle.outcome_tally.specs.OutcomeParts.{OutcomeParts}
use Rattle.outcome_tally.specs.Outcomes.{again, again_later, times_of, with_all, with_later}
use Rattle.outcome_tally.specs.Outcomes.{with_outcome}
use Rattle.outcome_tally.specs.RareTimes.{and_rares, no_rares, with_rares}
use Rattle.outcome_tally.specs.Spans.{both_spanned, spanned}
use Rattle.outcome_tally.specs.Tallies.{Ran, joined, no_runs, tally_of, with_came, with_full}
use Rattle.outcome_tally.specs.Tallies.{with_seen}
use Rattle.outcome_tally.specs.TallyParts.{TallyParts}
use Rattle.outcome_tally.specs.Times.{and_later, never, noted, once_more}
use Rattle.outcome_tally.specs.declared.rare_times.RareTimes.{RareTimes}
use Rattle.outcome_tally.specs.declared.span.Span.{Span}
use Rattle.outcome_tally.specs.declared.times.Times.{Times}

-- ---- how often something came

abbrev so_often : ℕ → Option ℕ → Times
so_often runs first = record { runs = runs; first = first }

same_times : (n m : ℕ) (f g : Option ℕ) → n ≡ m → f ≡ g → so_often n f ≡ so_often m g
same_times n m f g same also =
    ap (λ (r : ℕ). so_often r f) same ∙ ap (λ (o : Option ℕ). so_often m o) also

same_first : (f g : Option ℕ) (seed : ℕ)
    → Some (unwrap_or (option_or f g) seed) ≡ option_or f (Some (unwrap_or g seed))
same_first None g seed = refl
same_first (Some s) g seed = refl

no_first : (f : Option ℕ) → option_or f None ≡ f
no_first None = refl
no_first (Some s) = refl

-- once more, behind both
once_later : (t later : Times) (seed : ℕ)
    → once_more (and_later t later) seed ≡ and_later t (once_more later seed)
once_later t later seed =
    same_times (t.runs + later.runs + 1) (t.runs + (later.runs + 1))
    (Some (unwrap_or (option_or t.first later.first) seed))
    (option_or t.first (Some (unwrap_or later.first seed)))
    (omega arith) (same_first t.first later.first seed)

never_later : (t : Times) → and_later t never ≡ t
never_later t =
    same_times (t.runs + 0) t.runs (option_or t.first None) t.first (omega arith) (no_first t.first)

-- what came in later runs alone
pub later_alone : (t : Times) → and_later never t ≡ t
later_alone t = same_times (0 + t.runs) t.runs t.first t.first (omega arith) refl

noted_later : (t later : Times) (came : Bool) (seed : ℕ)
    → noted (and_later t later) came seed ≡ and_later t (noted later came seed)
noted_later t later true seed = once_later t later seed
noted_later t later false seed = refl

-- ---- the rare things

same_rares : (t u : RareTimes) → t.refused ≡ u.refused → t.found_none ≡ u.found_none
    → t.dead ≡ u.dead → t.closed ≡ u.closed → t.lost ≡ u.lost → t.down ≡ u.down → t ≡ u
same_rares t u refused found_none dead closed lost down = λ i. record {
  refused = refused i;
  found_none = found_none i;
  dead = dead i;
  closed = closed i;
  lost = lost i;
  down = down i;
}

rares_later : (t later : RareTimes) (rares : Rares) (seed : ℕ)
    → with_rares (and_rares t later) rares seed ≡ and_rares t (with_rares later rares seed)
rares_later t later rares seed =
    same_rares (with_rares (and_rares t later) rares seed) (and_rares t (with_rares later rares seed))
    (noted_later t.refused later.refused rares.refused seed)
    (noted_later t.found_none later.found_none rares.found_none seed)
    (noted_later t.dead later.dead rares.dead seed)
    (noted_later t.closed later.closed rares.closed seed)
    (noted_later t.lost later.lost rares.lost seed)
    (noted_later t.down later.down rares.down seed)

no_rares_later : (t : RareTimes) → and_rares t no_rares ≡ t
no_rares_later t =
    same_rares (and_rares t no_rares) t (never_later t.refused) (never_later t.found_none)
    (never_later t.dead) (never_later t.closed) (never_later t.lost) (never_later t.down)

-- ---- the numbers of steps

abbrev span : ℕ → ℕ → Span
span least most = record { least = least; most = most }

same_span : (a b c d : ℕ) → a ≡ b → c ≡ d → Some (span a c) ≡ Some (span b d)
same_span a b c d same also =
    ap (λ (n : ℕ). Some (span n c)) same ∙ ap (λ (n : ℕ). Some (span b n)) also

least_later : (n a b : ℕ)
    → cond (nat_lt n (cond (nat_lt b a) b a)) n (cond (nat_lt b a) b a)
    ≡ cond (nat_lt (cond (nat_lt n b) n b) a) (cond (nat_lt n b) n b) a
least_later n a b = grind (arith, nat_tests)

most_later : (n a b : ℕ)
    → cond (nat_lt (cond (nat_lt a b) b a) n) n (cond (nat_lt a b) b a)
    ≡ cond (nat_lt a (cond (nat_lt b n) n b)) (cond (nat_lt b n) n b) a
most_later n a b = grind (arith, nat_tests)

span_later : (s later : Option Span) (n : ℕ)
    → Some (spanned (both_spanned s later) n) ≡ both_spanned s (Some (spanned later n))
span_later None later n = refl
span_later (Some s) None n = refl
span_later (Some s) (Some later) n =
    same_span
    (cond (nat_lt n (cond (nat_lt later.least s.least) later.least s.least)) n
    (cond (nat_lt later.least s.least) later.least s.least))
    (cond (nat_lt (cond (nat_lt n later.least) n later.least) s.least)
    (cond (nat_lt n later.least) n later.least) s.least)
    (cond (nat_lt (cond (nat_lt s.most later.most) later.most s.most) n) n
    (cond (nat_lt s.most later.most) later.most s.most))
    (cond (nat_lt s.most (cond (nat_lt later.most n) n later.most))
    (cond (nat_lt later.most n) n later.most) s.most)
    (least_later n s.least later.least) (most_later n s.most later.most)

no_span_later : (s : Option Span) → both_spanned s None ≡ s
no_span_later None = refl
no_span_later (Some s) = refl

-- ---- by a test

same_cond : (b : Bool) (one two other more : List OutcomeParts) → one ≡ other → two ≡ more
    → cond b one two ≡ cond b other more
same_cond true one two other more same also = same
same_cond false one two other more same also = also

-- what holds of both lists, each where the test chooses it, holds of the chosen one
chosen : (P : List OutcomeParts → Type 0) (b : Bool) (one two : List OutcomeParts)
    → (b ≡ true → P one) → (b ≡ false → P two) → P (cond b one two)
chosen P true one two first second = first refl
chosen P false one two first second = second refl

abbrev outcome : List ℕ → Times → OutcomeParts
outcome text often = record { text = text; times = often }

abbrev in_front : OutcomeParts → List OutcomeParts → List OutcomeParts
in_front o rest = o ∷ rest

-- ---- an outcome once more

alike : (text : List ℕ) → bytes_eq text text ≡ true
alike text = (bytes_eq-Decides text text).1 refl

-- noted behind a later one of the same text, or with it
module _ (p : OutcomeParts) (rest : List OutcomeParts) (o : OutcomeParts) (seed : ℕ) where
  again_here : bytes_eq o.text p.text ≡ true
      → with_outcome (again_later p o.times ∷ rest) o.text seed
      ≡ with_later (p ∷ rest) (again o seed)
  again_here is =
      cond-true (bytes_eq o.text p.text) (again (again_later p o.times) seed ∷ rest)
      (again_later p o.times ∷ with_outcome rest o.text seed) is
      ∙ ap (λ (t : Times). outcome p.text t ∷ rest) (once_later p.times o.times seed)
      ∙ sym (cond-true (bytes_eq o.text p.text)
      (again_later p (once_more o.times seed) ∷ rest) (p ∷ with_later rest (again o seed)) is)

  again_behind : bytes_eq o.text p.text ≡ false
      → with_outcome (with_later rest o) o.text seed ≡ with_later rest (again o seed)
      → with_outcome (p ∷ with_later rest o) o.text seed ≡ with_later (p ∷ rest) (again o seed)
  again_behind is same =
      cond-false (bytes_eq o.text p.text) (again p seed ∷ with_later rest o)
      (p ∷ with_outcome (with_later rest o) o.text seed) is
      ∙ ap (in_front p) same
      ∙ sym (cond-false (bytes_eq o.text p.text)
      (again_later p (once_more o.times seed) ∷ rest) (p ∷ with_later rest (again o seed)) is)

outcome_later : (came : List OutcomeParts) (o : OutcomeParts) (seed : ℕ)
    → with_outcome (with_later came o) o.text seed ≡ with_later came (again o seed)
outcome_later [] o seed =
    cond-true (bytes_eq o.text o.text) (again o seed ∷ []) (o ∷ with_outcome [] o.text seed)
    (alike o.text)
outcome_later (p ∷ rest) o seed =
    chosen
    (λ (l : List OutcomeParts). with_outcome l o.text seed
    ≡ with_later (p ∷ rest) (again o seed))
    (bytes_eq o.text p.text) (again_later p o.times ∷ rest) (p ∷ with_later rest o)
    (again_here p rest o seed) (λ is. again_behind p rest o seed is (outcome_later rest o seed))

-- noted alone
fresh_later : (came : List OutcomeParts) (text : List ℕ) (seed : ℕ)
    → with_outcome came text seed ≡ with_later came (outcome text (once_more never seed))
fresh_later [] text seed = refl
fresh_later (p ∷ rest) text seed =
    let once : once_more p.times seed ≡ and_later p.times (once_more never seed) =
    ap (λ (t : Times). once_more t seed) (sym (never_later p.times))
    ∙ once_later p.times never seed in
    same_cond (bytes_eq text p.text) (again p seed ∷ rest) (p ∷ with_outcome rest text seed)
    (again_later p (once_more never seed) ∷ rest)
    (p ∷ with_later rest (outcome text (once_more never seed)))
    (ap (λ (t : Times). outcome p.text t ∷ rest) once)
    (ap (in_front p) (fresh_later rest text seed))

-- ---- an outcome that came, and the run in which it came first

abbrev HasFirst : OutcomeParts → Type 0
HasFirst o = is_some o.times.first ≡ true

abbrev HasCome : List OutcomeParts → List ℕ → Type 0
HasCome came text = is_some (times_of came text).first ≡ true

first_of_both : (f g : Option ℕ) → is_some f ≡ true → is_some (option_or f g) ≡ true
first_of_both None g is = cc
first_of_both (Some s) g is = refl

later_of_both : (f g : Option ℕ) → is_some g ≡ true → is_some (option_or f g) ≡ true
later_of_both None g is = is
later_of_both (Some s) g is = refl

-- it still has, with later ones
still_by : (b : Bool) (t rest after : Times)
    → (is_some rest.first ≡ true → is_some after.first ≡ true)
    → is_some (cond b t rest).first ≡ true → is_some (cond b t after).first ≡ true
still_by true t rest after keeps is = is
still_by false t rest after keeps is = keeps is

more_by : (b : Bool) (t later rest : Times) → is_some (cond b t rest).first ≡ true
    → is_some (cond b (and_later t later) rest).first ≡ true
more_by true t later rest is = first_of_both t.first later.first is
more_by false t later rest is = is

still_come : (came : List OutcomeParts) (o : OutcomeParts) (text : List ℕ) → HasCome came text
    → HasCome (with_later came o) text
still_come [] o text is = cc
still_come (p ∷ rest) o text is =
    chosen (λ (l : List OutcomeParts). HasCome l text) (bytes_eq o.text p.text)
    (again_later p o.times ∷ rest) (p ∷ with_later rest o)
    (λ b. more_by (bytes_eq text p.text) p.times o.times (times_of rest text) is)
    (λ b. still_by (bytes_eq text p.text) p.times (times_of rest text)
    (times_of (with_later rest o) text) (still_come rest o text) is)

-- it has, where it came later
later_come : (came : List OutcomeParts) (o : OutcomeParts) → HasFirst o
    → HasCome (with_later came o) o.text
later_come [] o is =
    subst (λ (b : Bool). is_some (cond b o.times never).first ≡ true) (sym (alike o.text)) is
later_come (p ∷ rest) o is =
    chosen (λ (l : List OutcomeParts). HasCome l o.text) (bytes_eq o.text p.text)
    (again_later p o.times ∷ rest) (p ∷ with_later rest o)
    (λ b. subst
    (λ (c : Bool). is_some (cond c (and_later p.times o.times) (times_of rest o.text)).first
    ≡ true)
    (sym b) (later_of_both p.times.first o.times.first is))
    (λ b. subst
    (λ (c : Bool). is_some (cond c p.times (times_of (with_later rest o) o.text)).first ≡ true)
    (sym b) (later_come rest o is))

-- ---- an outcome that came before is noted before or behind others

first_stays : (f g : Option ℕ) (seed : ℕ) → is_some f ≡ true
    → Some (unwrap_or (option_or f g) seed) ≡ option_or (Some (unwrap_or f seed)) g
first_stays None g seed is = cc
first_stays (Some s) g seed is = refl

once_before : (t later : Times) (seed : ℕ) → is_some t.first ≡ true
    → once_more (and_later t later) seed ≡ and_later (once_more t seed) later
once_before t later seed is =
    same_times (t.runs + later.runs + 1) (t.runs + 1 + later.runs)
    (Some (unwrap_or (option_or t.first later.first) seed))
    (option_or (Some (unwrap_or t.first seed)) later.first)
    (omega arith) (first_stays t.first later.first seed is)

module _ (q : OutcomeParts) (rest : List OutcomeParts) (o : OutcomeParts) (text : List ℕ) (seed : ℕ)
  where
    -- both are this one
    both_here : bytes_eq text q.text ≡ true → bytes_eq o.text q.text ≡ true
        → is_some q.times.first ≡ true
        → with_outcome (again_later q o.times ∷ rest) text seed ≡ with_later (again q seed ∷ rest) o
    both_here one two is =
        cond-true (bytes_eq text q.text) (again (again_later q o.times) seed ∷ rest)
        (again_later q o.times ∷ with_outcome rest text seed) one
        ∙ ap (λ (t : Times). outcome q.text t ∷ rest) (once_before q.times o.times seed is)
        ∙ sym (cond-true (bytes_eq o.text q.text) (again_later (again q seed) o.times ∷ rest)
        (again q seed ∷ with_later rest o) two)

    noted_here : bytes_eq text q.text ≡ true → bytes_eq o.text q.text ≡ false
        → with_outcome (q ∷ with_later rest o) text seed ≡ with_later (again q seed ∷ rest) o
    noted_here one two =
        cond-true (bytes_eq text q.text) (again q seed ∷ with_later rest o)
        (q ∷ with_outcome (with_later rest o) text seed) one
        ∙ sym (cond-false (bytes_eq o.text q.text) (again_later (again q seed) o.times ∷ rest)
        (again q seed ∷ with_later rest o) two)

    later_here : bytes_eq text q.text ≡ false → bytes_eq o.text q.text ≡ true
        → with_outcome (again_later q o.times ∷ rest) text seed
        ≡ with_later (q ∷ with_outcome rest text seed) o
    later_here one two =
        cond-false (bytes_eq text q.text) (again (again_later q o.times) seed ∷ rest)
        (again_later q o.times ∷ with_outcome rest text seed) one
        ∙ sym (cond-true (bytes_eq o.text q.text)
        (again_later q o.times ∷ with_outcome rest text seed)
        (q ∷ with_later (with_outcome rest text seed) o) two)

    none_here : bytes_eq text q.text ≡ false → bytes_eq o.text q.text ≡ false
        → with_outcome (with_later rest o) text seed ≡ with_later (with_outcome rest text seed) o
        → with_outcome (q ∷ with_later rest o) text seed
        ≡ with_later (q ∷ with_outcome rest text seed) o
    none_here one two same =
        cond-false (bytes_eq text q.text) (again q seed ∷ with_later rest o)
        (q ∷ with_outcome (with_later rest o) text seed) one
        ∙ ap (in_front q) same
        ∙ sym (cond-false (bytes_eq o.text q.text)
        (again_later q o.times ∷ with_outcome rest text seed)
        (q ∷ with_later (with_outcome rest text seed) o) two)

    by_tests : (b c : Bool) → bytes_eq text q.text ≡ b → bytes_eq o.text q.text ≡ c
        → is_some (cond b q.times (times_of rest text)).first ≡ true
        → (HasCome rest text
        → with_outcome (with_later rest o) text seed ≡ with_later (with_outcome rest text seed) o)
        → with_outcome (cond c (again_later q o.times ∷ rest) (q ∷ with_later rest o)) text seed
        ≡ with_later (cond b (again q seed ∷ rest) (q ∷ with_outcome rest text seed)) o
    by_tests true true one two is same = both_here one two is
    by_tests true false one two is same = noted_here one two
    by_tests false true one two is same = later_here one two
    by_tests false false one two is same = none_here one two (same is)

before_or_behind : (came : List OutcomeParts) (o : OutcomeParts) (text : List ℕ) (seed : ℕ)
    → HasCome came text
    → with_outcome (with_later came o) text seed ≡ with_later (with_outcome came text seed) o
before_or_behind [] o text seed is = cc
before_or_behind (q ∷ rest) o text seed is =
    by_tests q rest o text seed (bytes_eq text q.text) (bytes_eq o.text q.text) refl refl is
    (before_or_behind rest o text seed)

-- behind them all
behind_all : (later came : List OutcomeParts) (text : List ℕ) (seed : ℕ) → HasCome came text
    → with_outcome (with_all came later) text seed ≡ with_all (with_outcome came text seed) later
behind_all [] came text seed is = refl
behind_all (o ∷ later) came text seed is =
    behind_all later (with_later came o) text seed (still_come came o text is)
    ∙ ap (λ (l : List OutcomeParts). with_all l later) (before_or_behind came o text seed is)

-- ---- the outcomes of both

outcomes_later : (later came : List OutcomeParts) (text : List ℕ) (seed : ℕ) → All HasFirst later
    → with_outcome (with_all came later) text seed ≡ with_all came (with_outcome later text seed)
outcomes_later [] came text seed first = fresh_later came text seed
outcomes_later (o ∷ later) came text seed first =
    let same : with_outcome (with_all (with_later came o) later) o.text seed
    ≡ with_all (with_later came (again o seed)) later =
    behind_all later (with_later came o) o.text seed
    (later_come came o (All-head HasFirst o later first))
    ∙ ap (λ (l : List OutcomeParts). with_all l later) (outcome_later came o seed) in
    chosen
    (λ (l : List OutcomeParts). with_outcome (with_all (with_later came o) later) text seed
    ≡ with_all came l)
    (bytes_eq text o.text) (again o seed ∷ later) (o ∷ with_outcome later text seed)
    (λ is. subst
    (λ (t : List ℕ). with_outcome (with_all (with_later came o) later) t seed
    ≡ with_all (with_later came (again o seed)) later)
    (sym ((bytes_eq-Decides text o.text).0 is)) same)
    (λ is. outcomes_later later (with_later came o) text seed (All-tail HasFirst o later first))

first_with : (came : List OutcomeParts) (text : List ℕ) (seed : ℕ) → All HasFirst came
    → All HasFirst (with_outcome came text seed)
first_with [] text seed first =
    All-cons HasFirst (outcome text (once_more never seed)) [] refl (All-nil HasFirst)
first_with (o ∷ rest) text seed first =
    chosen (All HasFirst) (bytes_eq text o.text) (again o seed ∷ rest)
    (o ∷ with_outcome rest text seed)
    (λ is. All-cons HasFirst (again o seed) rest refl (All-tail HasFirst o rest first))
    (λ is. All-cons HasFirst o (with_outcome rest text seed) (All-head HasFirst o rest first)
    (first_with rest text seed (All-tail HasFirst o rest first)))

-- ---- the whole

same_tallies : (t u : TallyParts) → t.runs ≡ u.runs → t.full ≡ u.full → t.steps ≡ u.steps
    → t.came ≡ u.came → t.rares ≡ u.rares → t ≡ u
same_tallies t u runs full steps came rares =
    λ i. record { runs = runs i; full = full i; steps = steps i; came = came i; rares = rares i }

first_came : (t : TallyParts) (seed : ℕ) (seen : Option SeenParts) → All HasFirst t.came
    → All HasFirst (with_came t seed seen).came
first_came t seed None first = first
first_came t seed (Some seen) first = first_with t.came seen.outcome seed first

all_first : (rans : List Ran) → All HasFirst (tally_of rans).came
all_first [] = All-nil HasFirst
all_first (r ∷ before) = first_came (tally_of before) r.seed r.seen (all_first before)

one_more : (t later : TallyParts) (seed : ℕ) (seen : Option SeenParts) → All HasFirst later.came
    → with_came (joined t later) seed seen ≡ joined t (with_came later seed seen)
one_more t later seed None first =
    same_tallies (with_full (joined t later) seed) (joined t (with_full later seed))
    (omega arith) (once_later t.full later.full seed) refl refl refl
one_more t later seed (Some seen) first =
    same_tallies (with_seen (joined t later) seed seen) (joined t (with_seen later seed seen))
    (omega arith) refl (span_later t.steps later.steps seen.steps)
    (outcomes_later later.came t.came seen.outcome seed first)
    (rares_later t.rares later.rares seen.rares seed)

none_later : (t : TallyParts) → joined t no_runs ≡ t
none_later t =
    same_tallies (joined t no_runs) t (omega arith) (never_later t.full) (no_span_later t.steps) refl
    (no_rares_later t.rares)

-- THE TALLY OF SOME RUNS AND OF LATER ONES is that of the first ones, joined with that of the later
pub tally_joined : (earlier later : List Ran)
    → tally_of (later ++ earlier) ≡ joined (tally_of earlier) (tally_of later)
tally_joined earlier [] = sym (none_later (tally_of earlier))
tally_joined earlier (r ∷ later) =
    ap (λ (t : TallyParts). with_came t r.seed r.seen) (tally_joined earlier later)
    ∙ one_more (tally_of earlier) (tally_of later) r.seed r.seen (all_first later)
