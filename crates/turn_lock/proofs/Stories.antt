-- Stories: what goes on from a front, and what one maker made.
use Rattle.std.proofs.Common.{◌≡◌, ◌≢◌, ℕ, ◌<◌, ◌≤◌, List, [], ◌∷◌, ◌++◌, eqb, true, false, refl}
use Rattle.std.proofs.Common.{sym, ap, ◌∙◌, arith, append_assoc, eq-eqb, ne_eqb, All, zero, suc}
use Rattle.std.proofs.Common.{map, length, get_or, Some, slice_get, Result, Ok, Err, OnOk, OnErr}
use Rattle.std.proofs.lemmas.List.{append_cancel_right}
use Rattle.std.proofs.lemmas.List.Elements.{filter-append, All-nil, All-cons, All-head, All-tail}
use Rattle.std.proofs.lemmas.List.Elements.{All-append, All-weaker, All-same}
use Rattle.turn_lock.specs.declared.story.Made.{Made}
use Rattle.turn_lock.specs.Stories.{made, made_by, AllMadeBy, AllMadeUpTo, RestsFor, IsAddedBy}

module _ {E : Type 0} (n : ℕ) where
  -- the step is of n
  abbrev IsMine : Made E → Type 0
  IsMine m = m.maker ≡ n

  -- the step is of another
  abbrev IsElse : Made E → Type 0
  IsElse m = m.maker ≢ n

  pub made_by-append : (xs ys : List (Made E)) → made_by n (xs ++ ys) ≡ made_by n xs ++ made_by n ys
  made_by-append xs ys = filter-append (λ m. eqb m.maker n) xs ys

  -- all of what n made is of n
  made_by-all : (xs : List (Made E)) → AllMadeBy n xs → made_by n xs ≡ xs
  made_by-all [] h = refl
  made_by-all (x ∷ xs) h =
      let e : eqb x.maker n ≡ true = eq-eqb x.maker n (All-head IsMine x xs h) in
      rw e (ap (λ t. x ∷ t) (made_by-all xs (All-tail IsMine x xs h)))

  -- where no one of these is n, none of them is of n
  made_by-none : (xs : List (Made E)) → All IsElse xs → made_by n xs ≡ []
  made_by-none [] h = refl
  made_by-none (x ∷ xs) h =
      let e : eqb x.maker n ≡ false = ne_eqb x.maker n (All-head IsElse x xs h) in
      rw e (made_by-none xs (All-tail IsElse x xs h))

  pub made_by-above : (top : ℕ) (xs : List (Made E)) → top < n → AllMadeUpTo top xs
      → made_by n xs ≡ []
  made_by-above top xs more h = made_by-none xs
      (All-weaker (λ m. (0 < m.maker) × (m.maker ≤ top)) IsElse
      (λ m l i. let few = l.1 in omega arith) xs h)

  pub rests_itself : (story : List (Made E)) → RestsFor n story story
  rests_itself story = ([], refl, refl)

  -- where n made nothing since, its steps in the story are those in the front
  pub rests_own : (story front : List (Made E)) → RestsFor n story front
      → made_by n story ≡ made_by n front
  rests_own story front p = ap (made_by n) p.1
      ∙ (made_by-append p.0 front ∙ ap (λ t. t ++ made_by n front) p.2)

  -- what another added is nothing of n
  pub rests_added : (k : ℕ) (longer story front : List (Made E)) → k ≢ n
      → IsAddedBy k longer story → RestsFor n story front → RestsFor n longer front
  rests_added k longer story front apart a p = (
    a.0 ++ p.0,
    a.1 ∙ (ap (λ t. a.0 ++ t) p.1 ∙ sym (append_assoc a.0 p.0 front)),
    made_by-append a.0 p.0
        ∙ (ap (λ t. t ++ made_by n p.0)
        (made_by-none a.0 (All-weaker (λ m. m.maker ≡ k) IsElse
        (λ m e i. apart (sym e ∙ i)) a.0 a.2))
        ∙ p.2),
  )

  -- one step more, or none where memory was refused
  pub added_or_refused : {X : Type 0} (added : Result (Unit {0}) X) (e : E)
      (after story : List (Made E)) → OnOk added (after ≡ made n e ∷ story)
      → OnErr added (after ≡ story) → IsAddedBy n after story
  added_or_refused (Ok done) e after story grown same =
      (made n e ∷ [], grown, All-cons IsMine (made n e) [] refl (All-nil IsMine))
  added_or_refused (Err refusal) e after story grown same = ([], same, All-nil IsMine)

  -- what n added is of n
  pub added_own : (story front added : List (Made E)) → IsAddedBy n story front
      → story ≡ added ++ front → made_by n story ≡ added ++ made_by n front
  added_own story front added a e =
      let same : added ≡ a.0 = append_cancel_right added a.0 front (sym e ∙ a.1) in
      ap (made_by n) e
      ∙ (made_by-append added front
      ∙ ap (λ t. t ++ made_by n front) (made_by-all added (All-same IsMine added a.0 same a.2)))

  pub added_makers : (top : ℕ) (story front : List (Made E)) → 0 < n → n ≤ top
      → IsAddedBy n story front → AllMadeUpTo top front → AllMadeUpTo top story
  added_makers top story front some few a h =
      let P : Made E → Type 0 = λ m. (0 < m.maker) × (m.maker ≤ top) in
      All-same P story (a.0 ++ front) a.1 (All-append P a.0 front
      (All-weaker IsMine P (λ m e. (omega arith, omega arith)) a.0 a.2) h)

module _ {E : Type 0} where
  -- makers 1 to n are among those up to a greater number
  pub more_makers : (n top : ℕ) (xs : List (Made E)) → n ≤ top → AllMadeUpTo n xs
      → AllMadeUpTo top xs
  more_makers n top xs few h = All-weaker (λ m. (0 < m.maker) × (m.maker ≤ n))
      (λ m. (0 < m.maker) × (m.maker ≤ top)) (λ m l. (l.0, let most = l.1 in omega arith)) xs h

  -- the maker of the step at i, as `maker` of a story has to answer it
  pub maker_at : (story : List (Made E)) (i : ℕ) (m : Made E) → i < length story
      → m ≡ get_or story i m
      → slice_get (map (λ (x : Made E). x.maker) story) i ≡ Some m.maker
  maker_at [] i m l e = absurd (omega arith)
  maker_at (x ∷ xs) zero m l e = ap (λ (y : Made E). Some y.maker) (sym e)
  maker_at (x ∷ xs) (suc i) m l e = maker_at xs i m (omega arith) e
