-- What a list of entries holds: the facts that were when an event began, and those that are now.
use Rattle.std.proofs.Common.{◌≡◌, ℕ, zero, suc, ◌+◌, ◌<◌, ◌≤◌, Bool, true, false, cond, not, ◌&&◌}
use Rattle.std.proofs.Common.{◌||◌, ◌==◌, List, [], ◌∷◌, ◌++◌, length, drop, map, refl, ap, sym}
use Rattle.std.proofs.Common.{◌∙◌, subst, get_or, take, append-nil, arith, Option, Some, None}
use Rattle.std.proofs.Common.{slice_get, filter, option_map}
use Rattle.std.specs.List.{AllByRecursion, list_any}
use Rattle.std.proofs.lemmas.Bool.Decides.{nat_tests}
use Rattle.std.proofs.lemmas.List.{map-append, take_more}
use Rattle.std.proofs.lemmas.List.Elements.{filter-append, filter_agree}
use Rattle.linx_base.proofs.FirstMatches.{all_fail_first_match, without_match_none}
use Rattle.linx_base.specs.FirstMatch.{first_match, without_match}
use Rattle.rlnh_end.specs.declared.met_at.MetAt.{MetAt}
use Rattle.rlnh_end.specs.declared.fact.Fact.{Fact}
use Rattle.rlnh_end.specs.declared.fact.Fact.TheVariants.{Met, Noted}
use Rattle.rlnh_end.specs.declared.fact.Entry.{Entry}
use Rattle.rlnh_end.specs.Facts.{has_none, facts_without, began_with, AreNumbered, AreBelow}
use Rattle.rlnh_end.specs.Facts.{AreFacts}

-- ---- filters

module _ {X : Type 0} where
  -- two filters are one
  pub filter_twice : (p q : X → Bool) (xs : List X)
      → filter p (filter q xs) ≡ filter (λ x. q x && p x) xs
  filter_twice p q [] = refl
  filter_twice p q (x ∷ xs) = by (q x) refl (filter_twice p q xs)
    where
      by : (b : Bool) → q x ≡ b → filter p (filter q xs) ≡ filter (λ y. q y && p y) xs
          → filter p (filter q (x ∷ xs)) ≡ filter (λ y. q y && p y) (x ∷ xs)
      by true is rest = rw (is, rest) refl
      by false is rest = rw is rest

  -- the first that passes both of two tests
  pub first_of_both : (p q : X → Bool) (xs : List X)
      → first_match p (filter q xs) ≡ first_match q (filter p xs)
  first_of_both p q [] = refl
  first_of_both p q (x ∷ xs) = by (p x) (q x) refl refl (first_of_both p q xs)
    where
      by : (a b : Bool) → p x ≡ a → q x ≡ b
          → first_match p (filter q xs) ≡ first_match q (filter p xs)
          → first_match p (filter q (x ∷ xs)) ≡ first_match q (filter p (x ∷ xs))
      by true true is are rest = simp (is, are) refl
      by true false is are rest = simp (is, are) rest
      by false true is are rest = simp (is, are) rest
      by false false is are rest = simp (is, are) rest

  -- looking on from a place
  pub first_from : (q : X → Bool) (xs : List X) (k : ℕ) (x : X) → Some x ≡ slice_get xs k
      → first_match q (drop k xs) ≡ cond (q x) (Some x) (first_match q (drop (suc k) xs))
  first_from q [] k x is = cc
  first_from q (y ∷ ys) zero x is = let same : y ≡ x = cc in rw same refl
  first_from q (y ∷ ys) (suc k) x is = first_from q ys k x is

  pub none_from : (q : X → Bool) (xs : List X) (k : ℕ) → None ≡ slice_get xs k
      → first_match q (drop k xs) ≡ None
  none_from q [] zero is = refl
  none_from q [] (suc k) is = refl
  none_from q (y ∷ ys) zero is = cc
  none_from q (y ∷ ys) (suc k) is = none_from q ys k is

  pub place_within : (xs : List X) (k : ℕ) (x : X) → Some x ≡ slice_get xs k → k < length xs
  place_within [] k x is = cc
  place_within (y ∷ ys) zero x is = omega arith
  place_within (y ∷ ys) (suc k) x is = let less = place_within ys k x is in omega (arith, less)

  pub filter_shorter : (p : X → Bool) (xs : List X) → length (filter p xs) ≤ length xs
  filter_shorter p [] = omega arith
  filter_shorter p (x ∷ xs) =
      let rest : length (filter p xs) ≤ length xs = filter_shorter p xs in
      by (p x) refl rest
    where
      by : (b : Bool) → p x ≡ b → length (filter p xs) ≤ length xs
          → length (filter p (x ∷ xs)) ≤ suc (length xs)
      by true is rest = rw is (omega (arith, rest))
      by false is rest = rw is (omega (arith, rest))

  -- what is left of those that pass a test
  pub all_filter : (P : X → Type 0) (p : X → Bool) (xs : List X) → AllByRecursion P xs
      → AllByRecursion P (filter p xs)
  all_filter P p [] all = all
  all_filter P p (x ∷ xs) all =
      elim (p x) as (λ b. AllByRecursion P (cond b (x ∷ filter p xs) (filter p xs))) [
        | true ↦ (all.0, all_filter P p xs all.1)
        | false ↦ all_filter P p xs all.1
      ]

  pub all_push : (P : X → Type 0) (xs : List X) (x : X) → AllByRecursion P xs → P x
      → AllByRecursion P (xs ++ x ∷ [])
  all_push P [] x all here = (here, tt)
  all_push P (y ∷ ys) x all here = (all.0, all_push P ys x all.1 here)

  pub all_more : (P Q : X → Type 0) → ((x : X) → P x → Q x) → (xs : List X) → AllByRecursion P xs
      → AllByRecursion Q xs
  all_more P Q more [] all = tt
  all_more P Q more (x ∷ xs) all = (more x all.0, all_more P Q more xs all.1)

-- ---- numbers

-- one number more
pub none_more : (numbers : List ℕ) (n : ℕ) (e : Entry)
    → has_none (numbers ++ n ∷ []) e ≡ (has_none numbers e && not (n == e.number))
none_more [] n e = by (n == e.number)
  where
    by : (b : Bool) → not (b || false) ≡ (true && not b)
    by true = refl
    by false = refl
none_more (m ∷ numbers) n e = by (m == e.number) (none_more numbers n e)
  where
    by : (b : Bool) → has_none (numbers ++ n ∷ []) e
        ≡ (has_none numbers e && not (n == e.number))
        → not (b || list_any (λ k. k == e.number) (numbers ++ n ∷ []))
        ≡ (not (b || list_any (λ k. k == e.number) numbers) && not (n == e.number))
    by true rest = refl
    by false rest = rest

differs : (a b : ℕ) → a < b → (a == b) ≡ false
differs a b less = grind (arith, nat_tests)

differs_back : (a b : ℕ) → b < a → (a == b) ≡ false
differs_back a b less = grind (arith, nat_tests)

same : (a : ℕ) → (a == a) ≡ true
same a = grind (arith, nat_tests)

-- a number that is above some isn't one of them
pub none_above : (numbers : List ℕ) (e : Entry) → AreBelow e.number numbers
    → has_none numbers e ≡ true
none_above [] e below = refl
none_above (m ∷ numbers) e below =
    rw (differs m e.number below.0) (none_above numbers e below.1)

and_true : (b : Bool) → (b && true) ≡ b
and_true true = refl
and_true false = refl

and_false : (b : Bool) → (b && false) ≡ false
and_false true = refl
and_false false = refl

-- a number that is none of theirs takes no entry
without_other : (n : ℕ) (numbers : List ℕ) (es : List Entry)
    → AllByRecursion (λ e. (n == e.number) ≡ false) es
    → filter (has_none (numbers ++ n ∷ [])) es ≡ filter (has_none numbers) es
without_other n numbers [] others = refl
without_other n numbers (e ∷ es) others =
    let here : has_none (numbers ++ n ∷ []) e ≡ has_none numbers e =
    none_more numbers n e ∙ rw others.0 (and_true (has_none numbers e)) in
    let rest : filter (has_none (numbers ++ n ∷ [])) es ≡ filter (has_none numbers) es =
    without_other n numbers es others.1 in
    rw (here, rest) refl

module _ (next : ℕ) where
  pub numbered_filter : (p : Entry → Bool) (es : List Entry) → AreNumbered next es
      → AreNumbered next (filter p es)
  numbered_filter p [] all = tt
  numbered_filter p (e ∷ es) all =
      elim (p e) as (λ b. AreNumbered next (cond b (e ∷ filter p es) (filter p es))) [
        | true ↦ (
          all.0,
          all_filter (λ f. e.number < f.number) p es all.1,
          numbered_filter p es all.2,
        )
        | false ↦ numbered_filter p es all.2
      ]

  pub numbered_wider : (es : List Entry) → AreNumbered next es → AreNumbered (next + 1) es
  numbered_wider [] all = tt
  numbered_wider (e ∷ es) all = (omega (arith, all.0), all.1, numbered_wider es all.2)

  pub numbered_more : (fact : Fact) (es : List Entry) → AreNumbered next es
      → AreNumbered (next + 1) (es ++ record { number = next; fact = fact } ∷ [])
  numbered_more fact [] all = (omega arith, tt, tt)
  numbered_more fact (e ∷ es) all = (
    omega (arith, all.0),
    all_push (λ f. e.number < f.number) es (record { number = next; fact = fact }) all.1 all.0,
    numbered_more fact es all.2,
  )

  over : (low : ℕ) (es : List Entry) → low < next → AllByRecursion (λ f. low < f.number) es
      → AreNumbered next es → length es + low < next
  over low [] less above all = omega (arith, less)
  over low (e ∷ es) less above all =
      let rest : length es + e.number < next = over e.number es all.0 all.1 all.2 in
      omega (arith, rest, above.0)

  -- there are no more entries than numbers
  pub few_entries : (es : List Entry) → AreNumbered next es → length es ≤ next
  few_entries [] all = omega arith
  few_entries (e ∷ es) all =
      let rest : length es + e.number < next = over e.number es all.0 all.1 all.2 in
      omega (arith, rest)

  -- the next number is none of theirs
  pub next_apart : (numbers : List ℕ) (es : List Entry) → AreNumbered next es
      → filter (has_none (numbers ++ next ∷ [])) es ≡ filter (has_none numbers) es
  next_apart numbers es all = without_other next numbers es (others es all)
    where
      others : (fs : List Entry) → AreNumbered next fs
          → AllByRecursion (λ f. (next == f.number) ≡ false) fs
      others [] all = tt
      others (f ∷ fs) all = (differs_back next f.number all.0, others fs all.2)

  -- the first that passes has a number below
  pub first_below : (p : Entry → Bool) (es : List Entry) (e : Entry) → AreNumbered next es
      → Some e ≡ first_match p es → e.number < next
  first_below p [] e all is = cc
  first_below p (f ∷ es) e all is = by (p f) refl (λ later. first_below p es e all.2 later)
    where
      by : (b : Bool) → p f ≡ b → (Some e ≡ first_match p es → e.number < next) → e.number < next
      by true hit rest =
          let found : Some e ≡ Some f = rw hit at is in
          let one : e ≡ f = cc in
          rw one all.0
      by false miss rest =
          let later : Some e ≡ first_match p es = rw miss at is in
          rest later

  -- and, behind another, one above
  first_above : (low : ℕ) (p : Entry → Bool) (es : List Entry) (e : Entry)
      → AllByRecursion (λ f. low < f.number) es → Some e ≡ first_match p es → low < e.number
  first_above low p [] e all is = cc
  first_above low p (f ∷ es) e all is = by (p f) refl (λ later. first_above low p es e all.1 later)
    where
      by : (b : Bool) → p f ≡ b → (Some e ≡ first_match p es → low < e.number) → low < e.number
      by true hit rest =
          let found : Some e ≡ Some f = rw hit at is in
          let one : e ≡ f = cc in
          rw one all.0
      by false miss rest =
          let later : Some e ≡ first_match p es = rw miss at is in
          rest later

-- a number below all of theirs is none of theirs
lower_apart : (n : ℕ) (numbers : List ℕ) (es : List Entry)
    → AllByRecursion (λ f. n < f.number) es
    → filter (has_none (numbers ++ n ∷ [])) es ≡ filter (has_none numbers) es
lower_apart n numbers es all =
    without_other n numbers es (all_more (λ f. n < f.number) (λ f. (n == f.number) ≡ false)
    (λ f less. differs n f.number less) es all)

-- ---- the first fact

module _ (p : Fact → Bool) where
  -- a test of an entry's fact
  abbrev tests : Entry → Bool
  tests e = p e.fact

  pub first_fact : (es : List Entry)
      → first_match p (map (λ e. e.fact) es) ≡ option_map (λ e. e.fact) (first_match tests es)
  first_fact [] = refl
  first_fact (e ∷ es) = by (p e.fact) (first_fact es)
    where
      by : (b : Bool) → first_match p (map (λ f. f.fact) es)
          ≡ option_map (λ f. f.fact) (first_match tests es)
          → cond b (Some e.fact) (first_match p (map (λ f. f.fact) es))
          ≡ option_map (λ f. f.fact) (cond b (Some e) (first_match tests es))
      by true rest = refl
      by false rest = rest

  -- without the number of the first entry that passes, the first fact that passes is missing
  pub without_first : (next : ℕ) (gone : List ℕ) (es : List Entry) (e : Entry)
      → AreNumbered next es → Some e ≡ first_match tests (filter (has_none gone) es)
      → facts_without (gone ++ e.number ∷ []) es ≡ without_match p (facts_without gone es)
  without_first next gone [] e all is = cc
  without_first next gone (f ∷ es) e all is =
      by (has_none gone f) (p f.fact) refl refl (λ rest. without_first next gone es e all.2 rest)
    where
      flip : (a b : ℕ) → (a == b) ≡ false → not (b == a) ≡ true
      flip a b other = grind (arith, nat_tests)

      by : (a b : Bool) → has_none gone f ≡ a → p f.fact ≡ b
          → (Some e ≡ first_match tests (filter (has_none gone) es)
          → facts_without (gone ++ e.number ∷ []) es ≡ without_match p (facts_without gone es))
          → facts_without (gone ++ e.number ∷ []) (f ∷ es)
          ≡ without_match p (facts_without gone (f ∷ es))
      by false b dead passes behind =
          let rest : Some e ≡ first_match tests (filter (has_none gone) es) = rw dead at is in
          let still : has_none (gone ++ e.number ∷ []) f ≡ false =
          none_more gone e.number f ∙ rw dead refl in
          rw (still, dead) (behind rest)
      by true true live passes behind =
          let found : Some e ≡ Some f = rw (live, passes) at is in
          let one : e ≡ f = cc in
          let number : f.number ≡ e.number = ap (λ (x : Entry). x.number) (sym one) in
          let equal : (e.number == f.number) ≡ true =
          subst (λ (n : ℕ). (n == f.number) ≡ true) number (same f.number) in
          let hit : has_none (gone ++ e.number ∷ []) f ≡ false =
          none_more gone e.number f ∙ rw (live, equal) refl in
          let apart : filter (has_none (gone ++ e.number ∷ [])) es ≡ filter (has_none gone) es =
          subst (λ (n : ℕ). filter (has_none (gone ++ n ∷ [])) es ≡ filter (has_none gone) es)
          number (lower_apart f.number gone es all.1) in
          rw (hit, live, passes) (ap (map (λ x. x.fact)) apart)
      by true false live passes behind =
          let rest : Some e ≡ first_match tests (filter (has_none gone) es) =
          rw (live, passes) at is in
          let above : f.number < e.number =
          first_above next f.number tests (filter (has_none gone) es) e
          (all_filter (λ x. f.number < x.number) (has_none gone) es all.1) rest in
          let stays : has_none (gone ++ e.number ∷ []) f ≡ true =
          none_more gone e.number f ∙ rw live (flip f.number e.number
          (differs f.number e.number above)) in
          rw (stays, live, passes) (ap (λ l. f.fact ∷ l) (behind rest))

-- ---- looking through those that pass a test

module _ {X : Type 0} (p q : X → Bool) (xs : List X) (k : ℕ)
    (so_far : first_match q (drop k (filter p xs)) ≡ first_match q (filter p xs)) where
  pub passed_over : (x : X) → Some x ≡ slice_get (filter p xs) k → q x ≡ false
      → first_match q (drop (k + 1) (filter p xs)) ≡ first_match q (filter p xs)
  passed_over x found misses =
      let one : k + 1 ≡ suc k = omega arith in
      rw one (sym (first_from q (filter p xs) k x found
      ∙ ap (λ b. cond b (Some x) (first_match q (drop (suc k) (filter p xs)))) misses)
      ∙ so_far)

  pub is_first : (x : X) → Some x ≡ slice_get (filter p xs) k → q x ≡ true
      → Some x ≡ first_match p (filter q xs)
  is_first x found hits =
      sym (first_of_both p q xs ∙ sym so_far ∙ first_from q (filter p xs) k x found
      ∙ ap (λ b. cond b (Some x) (first_match q (drop (suc k) (filter p xs)))) hits)

  pub is_missing : None ≡ slice_get (filter p xs) k → None ≡ first_match p (filter q xs)
  is_missing none = sym (first_of_both p q xs ∙ sym so_far ∙ none_from q (filter p xs) k none)

-- ---- by key

-- what is found under a key is found by a test that agrees
pub nth_same : {X : Type 0} {p : X → Bool} {found : Option X} (xs : List X) (k : ℕ)
    → found ≡ slice_get (filter p xs) k → (q : X → Bool) → ((x : X) → p x ≡ q x)
    → found ≡ slice_get (filter q xs) k
nth_same {p = p} xs k is q agree = is ∙ ap (λ l. slice_get l k) (filter_agree p q agree xs)

-- what holds of entries of both kinds of facts holds of every entry
pub by_fact : (p q : Entry → Bool)
    → ((n : ℕ) (m : MetAt) → p (record { number = n; fact = Met m })
    ≡ q (record { number = n; fact = Met m }))
    → ((n : ℕ) (name : List ℕ) → p (record { number = n; fact = Noted name })
    ≡ q (record { number = n; fact = Noted name }))
    → (e : Entry) → p e ≡ q e
by_fact p q met noted e =
    elim e.fact as (λ fact. p (record { number = e.number; fact = fact })
    ≡ q (record { number = e.number; fact = fact })) [
      | Met m ↦ met e.number m
      | Noted name ↦ noted e.number name
    ]

-- no number takes no entry
pub all_stay : (es : List Entry) → es ≡ filter (has_none []) es
all_stay [] = refl
all_stay (e ∷ es) = ap (λ l. e ∷ l) (all_stay es)

-- the entries of one number more are gone
pub dropped_next : {p : Entry → Bool} {old new : List Entry} (es : List Entry)
    (numbers : List ℕ) (i d : ℕ)
    → i < length numbers → new ≡ filter (λ e. not (p e)) old
    → ((e : Entry) → p e ≡ (get_or numbers i d == e.number))
    → old ≡ filter (has_none (take i numbers)) es
    → new ≡ filter (has_none (take (i + 1) numbers)) es
dropped_next {p = p} es numbers i d less is agree was =
    let one : take (i + 1) numbers ≡ take i numbers ++ get_or numbers i d ∷ [] =
    take_more numbers i d less in
    rw one (is ∙ ap (filter (λ e. not (p e))) was
    ∙ filter_twice (λ e. not (p e)) (has_none (take i numbers)) es
    ∙ filter_agree (λ e. has_none (take i numbers) e && not (p e))
    (has_none (take i numbers ++ get_or numbers i d ∷ []))
    (λ e. ap (λ b. has_none (take i numbers) e && not b) (agree e)
    ∙ sym (none_more (take i numbers) (get_or numbers i d) e)) es)

-- ---- the facts after each change

-- no number, and all entries
pub without_none : (es : List Entry) → facts_without [] es ≡ map (λ e. e.fact) es
without_none es = ap (map (λ e. e.fact)) (sym (all_stay es))

module _ (es : List Entry) (before : Option (List Entry)) (come gone : List ℕ) (next : ℕ)
    (facts : AreFacts es before come gone next) where
  -- ---- a fact came

  module _ (fact : Fact) where
    abbrev entry : Entry
    entry = record { number = next; fact = fact }

    pub added : AreFacts (es ++ record { number = next; fact = fact } ∷ []) before
        (come ++ next ∷ []) gone (next + 1)
    added = record {
      numbered = numbered_more next fact es facts.numbered;
      began_numbered = began before facts.began_numbered;
      come_below = all_push (λ n. n < next + 1) come next (wider come facts.come_below)
          (omega arith);
      gone_below = wider gone facts.gone_below;
    }
      where
        wider : (numbers : List ℕ) → AreBelow next numbers → AreBelow (next + 1) numbers
        wider numbers below =
            all_more (λ n. n < next) (λ n. n < next + 1) (λ n less. omega (arith, less)) numbers
            below

        began : (b : Option (List Entry)) → AreNumbered next (began_with b es)
            → AreNumbered (next + 1) (began_with b (es ++ record { number = next; fact = fact }
            ∷ []))
        began None all = numbered_more next fact es all
        began (Some b) all = numbered_wider next b all

    pub added_is : facts_without gone (es ++ record { number = next; fact = fact } ∷ [])
        ≡ facts_without gone es ++ fact ∷ []
    added_is =
        let here : has_none gone entry ≡ true = none_above gone entry facts.gone_below in
        rw (filter-append (has_none gone) es (entry ∷ []), here)
        (map-append (λ e. e.fact) (filter (has_none gone) es) (entry ∷ []))

    pub added_was : facts_without (come ++ next ∷ []) (began_with before
        (es ++ record { number = next; fact = fact } ∷ []))
        ≡ facts_without come (began_with before es)
    added_was = began before facts.began_numbered
      where
        here : has_none (come ++ next ∷ []) entry ≡ false
        here = none_more come next entry ∙ rw (same next) (and_false (has_none come entry))

        began : (b : Option (List Entry)) → AreNumbered next (began_with b es)
            → facts_without (come ++ next ∷ []) (began_with b (es ++ record {
              number = next;
              fact = fact;
            } ∷ []))
            ≡ facts_without come (began_with b es)
        began None all =
            let apart : filter (has_none (come ++ next ∷ [])) es ≡ filter (has_none come) es =
            next_apart next come es all in
            rw (
              filter-append (has_none (come ++ next ∷ [])) es (entry ∷ []),
              here,
              apart,
              append-nil,
            ) refl
        began (Some b) all = ap (map (λ e. e.fact)) (next_apart next come b all)

  -- ---- a fact went

  pub forgot : (p : Fact → Bool) (e : Entry)
      → Some e ≡ first_match (λ x. p x.fact) (filter (has_none gone) es)
      → AreFacts es before come (gone ++ e.number ∷ []) next
  forgot p e is = record {
    numbered = facts.numbered;
    began_numbered = facts.began_numbered;
    come_below = facts.come_below;
    gone_below = all_push (λ n. n < next) gone e.number facts.gone_below
        (first_below next (λ x. p x.fact) (filter (has_none gone) es) e
        (numbered_filter next (has_none gone) es facts.numbered) is);
  }

  pub forgot_is : (p : Fact → Bool) (e : Entry)
      → Some e ≡ first_match (λ x. p x.fact) (filter (has_none gone) es)
      → facts_without (gone ++ e.number ∷ []) es ≡ without_match p (facts_without gone es)
  forgot_is p e is = without_first p next gone es e facts.numbered is

  pub few : next < 18446744073709551616 → length es < 18446744073709551616
  few less = let all = few_entries next es facts.numbered in omega (arith, all, less)

  -- ---- a connection begins

  pub begun : AreFacts [] (Some (began_with before es)) come [] next
  begun = record {
    numbered = tt;
    began_numbered = facts.began_numbered;
    come_below = facts.come_below;
    gone_below = tt;
  }

  -- ---- the event is over

  pub kept : AreFacts (filter (has_none gone) es) None [] [] next
  kept =
      let all = numbered_filter next (has_none gone) es facts.numbered in
      record { numbered = all; began_numbered = all; come_below = tt; gone_below = tt }

  pub undone : AreFacts (filter (has_none come) (began_with before es)) None [] [] next
  undone =
      let all = numbered_filter next (has_none come) (began_with before es) facts.began_numbered in
      record { numbered = all; began_numbered = all; come_below = tt; gone_below = tt }

-- nothing is found
pub nothing_found : (p : Fact → Bool) (gone : List ℕ) (es : List Entry)
    → None ≡ first_match (λ x. p x.fact) (filter (has_none gone) es)
    → without_match p (facts_without gone es) ≡ facts_without gone es
nothing_found p gone es none =
    without_match_none p (facts_without gone es) (all_fail_first_match p (facts_without gone es)
    (ap (option_map (λ e. e.fact)) none ∙ sym (first_fact p (filter (has_none gone) es))))
