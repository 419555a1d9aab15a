-- THE SESSIONS THAT A SIDE HAD, by how often it went down in each boot.
use Rattle.std.proofs.Common.{◌≡◌, ℕ, zero, suc, ◌+◌, ◌*◌, ◌-◌, ◌/◌, ◌%◌, ◌<◌, ◌≤◌, Bool, true, false}
use Rattle.std.proofs.Common.{◌&&◌, ◌||◌, ◌==◌, List, [], ◌∷◌, ◌++◌, length, Option, Some, None}
use Rattle.std.proofs.Common.{nat_le, nat_lt, slice_get, refl, sym, ◌∙◌, ap, subst, arith, eq-eqb}
use Rattle.std.proofs.Common.{eqb-true, ltb-true, true≢false, if◌then◌else◌}
use Rattle.std.specs.List.{list_any}
use Rattle.std.proofs.lemmas.Bool.{and_parts, le-leb, leb-true, lt-ltb}
use Rattle.std.proofs.lemmas.Nat.{div-add-mod', div-mul-add, mod-mul-add}
use Rattle.linx_base.specs.Numbers.{boot_of, count_of, high_half, low_half, number_of, session_of}
use Rattle.linx_base.specs.declared.identity.Session.{Session}
use Rattle.linx_base.specs.declared.identity.Side.{Side}
use Rattle.journal.specs.declared.effect.Step.{Step}
use Rattle.journal.proofs.Steps.{slice_get-push}
use Rattle.link_laws.proofs.Moves.Restarts.{few-downs}
use Rattle.link_laws.specs.Sessions.{boots, downs, ends_session, had_session, own_session, restarts}
use Rattle.link_tables.specs.Sides.{downs_at, downs_or, earlier_downs, had_in, is_within, side_left}
use Rattle.link_tables.specs.Sides.{within_downs}

-- TESTS. Two tests are one where each tells the other
one_test : (a b : Bool) → (a ≡ true → b ≡ true) → (b ≡ true → a ≡ true) → a ≡ b
one_test true true there back = refl
one_test true false there back = sym (there refl)
one_test false true there back = back refl
one_test false false there back = refl

both : (a b : Bool) → a ≡ true → b ≡ true → (a && b) ≡ true
both true b first second = second
both false b first second = first

or_false : (b : Bool) → (b || false) ≡ b
or_false true = refl
or_false false = refl

within-parts : (c d : ℕ) → is_within c d ≡ true → (0 < c) × (c ≤ suc d)
within-parts c d is =
    let parts = and_parts (nat_lt 0 c) (nat_le (c - 1) d) is in
    let above : 0 < c = ltb-true 0 c parts.0 in
    let below : c - 1 ≤ d = leb-true (c - 1) d parts.1 in
    (above, omega arith)

parts-within : (c d : ℕ) → 0 < c → c ≤ suc d → is_within c d ≡ true
parts-within c d above below =
    both (nat_lt 0 c) (nat_le (c - 1) d) (lt-ltb 0 c above) (le-leb (c - 1) d (omega arith))

-- one more session of the same boot, and the first of the next one
one-more : (c d : ℕ) → ((c == suc (suc d)) || is_within c d) ≡ is_within c (suc d)
one-more c d = go (c == suc (suc d)) refl
  where
    go : (b : Bool) → (c == suc (suc d)) ≡ b → (b || is_within c d) ≡ is_within c (suc d)
    go true e =
        let is : c ≡ suc (suc d) = eqb-true c (suc (suc d)) e in
        sym (parts-within c (suc d) (omega arith) (omega arith))
    go false e =
        one_test (is_within c d) (is_within c (suc d))
        (λ is. let p = within-parts c d is in
        parts-within c (suc d) p.0 (let h : c ≤ suc d = p.1 in omega arith))
        (λ is. let p = within-parts c (suc d) is in
        parts-within c d p.0
        (let h : c ≤ suc (suc d) = p.1 in
        let other : c ≡ suc (suc d) → ⊥ =
        λ same. true≢false (sym (eq-eqb c (suc (suc d)) same) ∙ e) in
        omega (arith, other)))

first-one : (c : ℕ) → (c == 1) ≡ is_within c 0
first-one c = one_test (c == 1) (is_within c 0)
    (λ is. let e : c ≡ 1 = eqb-true c 1 is in parts-within c 0 (omega arith) (omega arith))
    (λ is. let p = within-parts c 0 is in
    let above : 0 < c = p.0 in let below : c ≤ 1 = p.1 in
    let e : c ≡ 1 = omega arith in eq-eqb c 1 e)

differ : (a b : ℕ) → (a ≡ b → ⊥) → (a == b) ≡ false
differ a b not = go (a == b) refl
  where
    go : (t : Bool) → (a == b) ≡ t → (a == b) ≡ false
    go true e = absurd (not (eqb-true a b e))
    go false e = e

within-list : (xs : List ℕ) (k : ℕ) (x : ℕ) → slice_get xs k ≡ Some x → k < length xs
within-list [] k x is = cc
within-list (y ∷ xs) zero x is = omega arith
within-list (y ∷ xs) (suc k) x is = let h : k < length xs = within-list xs k x is in omega arith

length-push : (xs : List ℕ) (x : ℕ) → length (xs ++ x ∷ []) ≡ suc (length xs)
length-push [] x = refl
length-push (y ∷ xs) x = ap suc (length-push xs x)

-- THE TABLE: a boot and a count are those of a session that was had
abbrev pub had_at : List ℕ → ℕ → ℕ → ℕ → Bool
had_at earlier down boot count = within_downs count (downs_at earlier down boot)

-- the present session is one
own-had : (earlier : List ℕ) (down boot count : ℕ)
    → ((boot == suc (length earlier)) && (count == suc down)) ≡ true
    → had_at earlier down boot count ≡ true
own-had earlier down boot count is =
    let parts = and_parts (boot == suc (length earlier)) (count == suc down) is in
    let b : suc (length earlier) ≡ boot = sym (eqb-true boot (suc (length earlier)) parts.0) in
    let c : suc down ≡ count = sym (eqb-true count (suc down) parts.1) in
    subst (λ (n : ℕ). had_at earlier down n count ≡ true) b
    (go (slice_get earlier (length earlier)) refl c)
  where
    go : (o : Option ℕ) → slice_get earlier (length earlier) ≡ o → suc down ≡ count
        → within_downs count (downs_or o (length earlier == length earlier) down) ≡ true
    go (Some n) is c =
        let h : length earlier < length earlier = within-list earlier (length earlier) n is in
        absurd (omega arith)
    go None is c =
        rw (eq-eqb (length earlier) (length earlier) refl)
        (parts-within count down (omega arith) (omega arith))

-- after a step that does neither
had-same : (earlier : List ℕ) (down boot count : ℕ)
    → (((boot == suc (length earlier)) && (count == suc down)) || had_at earlier down boot count)
    ≡ had_at earlier down boot count
had-same earlier down boot count =
    go ((boot == suc (length earlier)) && (count == suc down)) refl
  where
    go : (b : Bool) → ((boot == suc (length earlier)) && (count == suc down)) ≡ b
        → (b || had_at earlier down boot count) ≡ had_at earlier down boot count
    go true e = sym (own-had earlier down boot count e)
    go false e = refl

-- after one that ends the session
had-down : (earlier : List ℕ) (down boot count : ℕ)
    → (((boot == suc (length earlier)) && (count == suc (suc down)))
    || had_at earlier down boot count)
    ≡ had_at earlier (suc down) boot count
had-down earlier down zero count =
    rw (differ 0 (suc (length earlier)) (λ same. omega arith)) refl
had-down earlier down (suc k) count = go (slice_get earlier k) refl (k == length earlier) refl
  where
    go : (o : Option ℕ) → slice_get earlier k ≡ o → (b : Bool) → (k == length earlier) ≡ b
        → (((suc k == suc (length earlier)) && (count == suc (suc down)))
        || within_downs count (downs_or o b down))
        ≡ within_downs count (downs_or o b (suc down))
    go (Some n) is b e =
        let h : k < length earlier = within-list earlier k n is in
        rw (differ (suc k) (suc (length earlier)) (λ same. omega arith)) refl
    go None is true e =
        let same : k ≡ length earlier = eqb-true k (length earlier) e in
        rw (eq-eqb (suc k) (suc (length earlier)) (ap suc same)) (one-more count down)
    go None is false e =
        rw (differ (suc k) (suc (length earlier))
        (λ same. true≢false (sym (eq-eqb k (length earlier) (omega arith)) ∙ e))) refl

-- after a restart of the node
had-restart : (earlier : List ℕ) (down boot count : ℕ)
    → (((boot == suc (length (earlier ++ down ∷ []))) && (count == 1))
    || had_at earlier down boot count)
    ≡ had_at (earlier ++ down ∷ []) 0 boot count
had-restart earlier down zero count =
    rw (differ 0 (suc (length (earlier ++ down ∷ []))) (λ same. omega arith)) refl
had-restart earlier down (suc k) count =
    rw (slice_get-push earlier down k, length-push earlier down)
    (go (slice_get earlier k) refl (k == length earlier) refl (k == suc (length earlier)) refl)
  where
    go : (o : Option ℕ) → slice_get earlier k ≡ o → (b : Bool) → (k == length earlier) ≡ b
        → (n : Bool) → (k == suc (length earlier)) ≡ n
        → (((suc k == suc (suc (length earlier))) && (count == 1))
        || within_downs count (downs_or o b down))
        ≡ within_downs count (downs_or (if b then Some down else o) n 0)
    go (Some m) is true e n f =
        let h : k < length earlier = within-list earlier k m is in
        let same : k ≡ length earlier = eqb-true k (length earlier) e in
        absurd (omega arith)
    go (Some m) is false e n f =
        let h : k < length earlier = within-list earlier k m is in
        rw (differ (suc k) (suc (suc (length earlier))) (λ same. omega arith)) refl
    go None is true e n f =
        let same : k ≡ length earlier = eqb-true k (length earlier) e in
        rw (differ (suc k) (suc (suc (length earlier))) (λ other. omega arith)) refl
    go None is false e true f =
        let same : k ≡ suc (length earlier) = eqb-true k (suc (length earlier)) f in
        rw (eq-eqb (suc k) (suc (suc (length earlier))) (ap suc same))
        (or_false (count == 1) ∙ first-one count)
    go None is false e false f =
        rw (differ (suc k) (suc (suc (length earlier)))
        (λ same. true≢false (sym (eq-eqb k (suc (length earlier)) (omega arith)) ∙ f))) refl

-- A SESSION AS TWO NUMBERS: it is one of this boot and count exactly where its halves are
own-test : (boot count : ℕ) (y : Session) → count < 4294967296
    → ((session_of boot count).0 == y.0) ≡ ((boot_of y == boot) && (count_of y == count))
own-test boot count y small =
    one_test ((session_of boot count).0 == y.0) ((boot_of y == boot) && (count_of y == count))
    (λ is. let same : number_of boot count ≡ y.0 = eqb-true (number_of boot count) y.0 is in
    both (boot_of y == boot) (count_of y == count)
    (eq-eqb (boot_of y) boot (ap high_half (sym same)
    ∙ div-mul-add boot 4294967296 count small))
    (eq-eqb (count_of y) count (ap low_half (sym same)
    ∙ mod-mul-add boot 4294967296 count small)))
    (λ is. let parts = and_parts (boot_of y == boot) (count_of y == count) is in
    let high : high_half y.0 ≡ boot = eqb-true (boot_of y) boot parts.0 in
    let low : low_half y.0 ≡ count = eqb-true (count_of y) count parts.1 in
    eq-eqb (number_of boot count) y.0
    (ap (λ (k : ℕ). k * 4294967296 + count) (sym high)
    ∙ ap (λ (k : ℕ). y.0 / 4294967296 * 4294967296 + k) (sym low)
    ∙ div-add-mod' y.0 4294967296))

-- how often the node booted again is how many boots are over
pub boots-earlier : (P : List Step) (node link : ℕ)
    → length (earlier_downs P node link) ≡ boots P node
boots-earlier [] node link = refl
boots-earlier (s ∷ P) node link = go (restarts node s.head) (boots-earlier P node link)
  where
    go : (b : Bool) → length (earlier_downs P node link) ≡ boots P node
        → length (if b then earlier_downs P node link ++ downs P node link ∷ [] else
        earlier_downs P node link)
        ≡ (if b then suc (boots P node) else boots P node)
    go true before =
        length-push (earlier_downs P node link) (downs P node link) ∙ ap suc before
    go false before = before

had-first : (boot count : ℕ) → ((boot == 1) && (count == 1)) ≡ had_at [] 0 boot count
had-first zero count = refl
had-first (suc k) count = go (k == 0) refl
  where
    go : (b : Bool) → (k == 0) ≡ b
        → ((suc k == 1) && (count == 1)) ≡ within_downs count (downs_or None b 0)
    go true e =
        let same : k ≡ 0 = eqb-true k 0 e in
        rw (eq-eqb (suc k) 1 (omega arith)) (first-one count)
    go false e =
        rw (differ (suc k) 1 (λ same. true≢false (sym (eq-eqb k 0 (omega arith)) ∙ e))) refl

-- ONE STEP, by whether it restarts the node, and whether it ends the session
module _ (P : List Step) (node link : ℕ) (y : Session) (short : length P < 4294967294)
    (before : had_session P node link y
    ≡ had_at (earlier_downs P node link) (downs P node link) (boot_of y) (count_of y)) where
  abbrev pub E : List ℕ
  E = earlier_downs P node link

  abbrev pub D : ℕ
  D = downs P node link

  abbrev pub B : ℕ
  B = boots P node

  abbrev pub boot : ℕ
  boot = boot_of y

  abbrev pub count : ℕ
  count = count_of y

  counted : length E ≡ B
  counted = boots-earlier P node link

  few : D ≤ length P
  few = few-downs P node link

  -- with the present session as two numbers
  present : (b c n m : ℕ) → c < 4294967296 → b ≡ n → c ≡ m
      → (((session_of b c).0 == y.0) || had_session P node link y)
      ≡ (((boot == n) && (count == m)) || had_at E D boot count)
  present b c n m small same_boot same_count =
      ap (λ (t : Bool). t || had_session P node link y) (own-test b c y small)
      ∙ ap (λ (k : ℕ). ((boot == k) && (count == c)) || had_session P node link y) same_boot
      ∙ ap (λ (k : ℕ). ((boot == n) && (count == k)) || had_session P node link y) same_count
      ∙ ap (λ (t : Bool). ((boot == n) && (count == m)) || t) before

  pub had-step : (a b : Bool)
      → (((session_of (1 + (if a then suc B else B))
      (1 + (if a then 0 else (if b then suc D else D)))).0 == y.0)
      || had_session P node link y)
      ≡ had_at (if a then E ++ D ∷ [] else E)
      (if a then 0 else (if b then suc D else D)) boot count
  had-step true b =
      let h : length (E ++ D ∷ []) ≡ suc (length E) = length-push E D in
      let same : 1 + suc B ≡ suc (length (E ++ D ∷ [])) = omega (arith, h, counted) in
      present (1 + suc B) (1 + 0) (suc (length (E ++ D ∷ []))) 1 (omega arith) same (omega arith)
      ∙ had-restart E D boot count
  had-step false true =
      let small : 1 + suc D < 4294967296 = omega (arith, few) in
      let same : 1 + B ≡ suc (length E) = omega (arith, counted) in
      let more : 1 + suc D ≡ suc (suc D) = omega arith in
      present (1 + B) (1 + suc D) (suc (length E)) (suc (suc D)) small same more
      ∙ had-down E D boot count
  had-step false false =
      let small : 1 + D < 4294967296 = omega (arith, few) in
      let same : 1 + B ≡ suc (length E) = omega (arith, counted) in
      let more : 1 + D ≡ suc D = omega arith in
      present (1 + B) (1 + D) (suc (length E)) (suc D) small same more
      ∙ had-same E D boot count

-- THE SESSIONS THAT A SIDE HAD are those that its table tells
pub had-told : (P : List Step) (node link : ℕ) (side : Side) (y : Session)
    → length P < 4294967294
    → had_session P node link y ≡ had_in (side_left P node link side) y
had-told [] node link side y short =
    own-test 1 1 y (omega arith) ∙ had-first (boot_of y) (count_of y)
had-told (s ∷ P) node link side y short =
    had-step P node link y (omega arith) (had-told P node link side y (omega arith))
    (restarts node s.head) (list_any (ends_session node link) s.effects)
