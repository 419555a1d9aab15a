-- The peers that an end met.
use Rattle.std.proofs.Common.{◌≡◌, ◌≢◌, ℕ, true, false, List, [], ◌∷◌, Option, Some, None, ◌⊎◌, inl}
use Rattle.std.proofs.Common.{inr, arith, refl, sym, ◌∙◌, ap, subst, ◌==◌, eq-eqb}
use Rattle.std.proofs.lemmas.Option.{none-some, same_Some}
use Rattle.std.proofs.lemmas.Bool.Decides.{nat_tests, eqb_tells}
use Rattle.linx_base.specs.declared.identity.Inc.{Inc}
use Rattle.link_addresses.specs.declared.meaning.Meaning.{Meaning}
use Rattle.rlnh_end.specs.declared.met_at.MetAt.{MetAt}
use Rattle.rlnh_end.specs.States.{addr_met, inc_met, with_met, without_met}
use Rattle.rlnh_laws.specs.Ties.{About, Toward, Stands, AreApart, unused, announced, known}
use Rattle.rlnh_laws.specs.Ties.{answered, bearer}
use Rattle.rlnh_laws.proofs.Standing.{tells_bearer}

pub option_cases : {X : Type 0} (o : Option X) → (o ≡ None) ⊎ ((x : X) × (o ≡ Some x))
option_cases None = inl refl
option_cases (Some x) = inr (x, refl)

inc_eq : (i j : Inc) → i.0 ≡ j.0 → i ≡ j
inc_eq i j e = ap (λ (n : ℕ). let w : Inc = record { 0 = n } in w) e

-- who was met at an address, and where an incarnation was met, is the first one's or a later one's
at_first : (m : MetAt) (met : List MetAt) (a : ℕ) → (a == m.addr) ≡ true
    → inc_met (m ∷ met) a ≡ Some m.inc
at_first m met a hit = rw hit refl

at_later : (m : MetAt) (met : List MetAt) (a : ℕ) → (a == m.addr) ≡ false
    → inc_met (m ∷ met) a ≡ inc_met met a
at_later m met a miss = rw miss refl

of_first : (m : MetAt) (met : List MetAt) (i : Inc) → (i.0 == m.inc.0) ≡ true
    → addr_met (m ∷ met) i ≡ Some m.addr
of_first m met i hit = rw hit refl

of_later : (m : MetAt) (met : List MetAt) (i : Inc) → (i.0 == m.inc.0) ≡ false
    → addr_met (m ∷ met) i ≡ addr_met met i
of_later m met i miss = rw miss refl

-- where nobody is found, the first one isn't the one
not_first : (m : MetAt) (met : List MetAt) (a : ℕ) → inc_met (m ∷ met) a ≡ None
    → ((a == m.addr) ≡ false) × (a ≢ m.addr) × (inc_met met a ≡ None)
not_first m met a none = elim (eqb_tells a m.addr) [
  | inl same ↦ absurd (none-some m.inc (sym none ∙ at_first m met a same.0))
  | inr other ↦ (other.0, other.1, sym (at_later m met a other.0) ∙ none)
]

not_first_of : (m : MetAt) (met : List MetAt) (i : Inc) → addr_met (m ∷ met) i ≡ None
    → ((i.0 == m.inc.0) ≡ false) × (i.0 ≢ m.inc.0) × (addr_met met i ≡ None)
not_first_of m met i none = elim (eqb_tells i.0 m.inc.0) [
  | inl same ↦ absurd (none-some m.addr (sym none ∙ of_first m met i same.0))
  | inr other ↦ (other.0, other.1, sym (of_later m met i other.0) ∙ none)
]

-- who is met at an address has it
pub met_both : (met : List MetAt) (i : Inc) (b : ℕ) → AreApart met → addr_met met i ≡ Some b
    → inc_met met b ≡ Some i
met_both [] i b apart e = absurd (none-some b e)
met_both (m ∷ met) i b apart e = elim (eqb_tells i.0 m.inc.0) [
  | inl same ↦
      let at : Some m.addr ≡ Some b = sym (of_first m met i same.0) ∙ e in
      let is : b ≡ m.addr = sym (same_Some m.addr b at) in
      at_first m met b (eq-eqb b m.addr is) ∙ ap Some (inc_eq m.inc i (sym same.1))
  | inr other ↦
      let rest : inc_met met b ≡ Some i =
      met_both met i b apart.2 (sym (of_later m met i other.0) ∙ e) in
      elim (eqb_tells b m.addr) [
        | inl here ↦
            absurd (none-some i (sym (subst (λ k. inc_met met k ≡ None) (sym here.1) apart.0)
            ∙ rest))
        | inr off ↦ at_later m met b off.0 ∙ rest
      ]
]

-- who is met at an address, it is the other side's
pub met_bearer : (own : Meaning) (i : Inc) (met : Option Inc) (ab : List About) (to : List Toward)
    → met ≡ Some i → Stands own met ab to → bearer own ≡ Some i
met_bearer own i met ab to is (unused o m e t) = absurd (none-some i (sym m ∙ is))
met_bearer own i met ab to is (announced j r m e t q) = absurd (none-some i (sym m ∙ is))
met_bearer own i met ab to is (known j m t q) = tells_bearer j own ab t ∙ sym m ∙ is
met_bearer own i met ab to is (answered j o m e q) = absurd (none-some i (sym m ∙ is))

-- ---- a peer is met
pub with_here : (met : List MetAt) (a : ℕ) (i : Inc) → inc_met met a ≡ None
    → inc_met (with_met met a i) a ≡ Some i
with_here [] a i none = at_first (record { addr = a; inc = i }) [] a (eq-eqb a a refl)
with_here (m ∷ met) a i none =
    let off = not_first m met a none in
    at_later m (with_met met a i) a off.0 ∙ with_here met a i off.2

pub with_other : (met : List MetAt) (a : ℕ) (i : Inc) (b : ℕ) → a ≢ b
    → inc_met met b ≡ inc_met (with_met met a i) b
with_other [] a i b off =
    let away : (b == a) ≡ false = grind (arith, nat_tests) in
    sym (at_later (record { addr = a; inc = i }) [] b away)
with_other (m ∷ met) a i b off = elim (eqb_tells b m.addr) [
  | inl here ↦ at_first m met b here.0 ∙ sym (at_first m (with_met met a i) b here.0)
  | inr there ↦
      at_later m met b there.0 ∙ with_other met a i b off
      ∙ sym (at_later m (with_met met a i) b there.0)
]

with_else : (met : List MetAt) (a : ℕ) (i j : Inc) → i.0 ≢ j.0
    → addr_met met j ≡ addr_met (with_met met a i) j
with_else [] a i j off =
    let away : (j.0 == i.0) ≡ false = grind (arith, nat_tests) in
    sym (of_later (record { addr = a; inc = i }) [] j away)
with_else (m ∷ met) a i j off = elim (eqb_tells j.0 m.inc.0) [
  | inl here ↦ of_first m met j here.0 ∙ sym (of_first m (with_met met a i) j here.0)
  | inr there ↦
      of_later m met j there.0 ∙ with_else met a i j off
      ∙ sym (of_later m (with_met met a i) j there.0)
]

pub apart_with : (met : List MetAt) (a : ℕ) (i : Inc) → AreApart met → inc_met met a ≡ None
    → addr_met met i ≡ None → AreApart (with_met met a i)
apart_with [] a i apart none unknown = (refl, refl, tt)
apart_with (m ∷ met) a i apart none unknown =
    let off = not_first m met a none in
    let else_ = not_first_of m met i unknown in (
      sym (with_other met a i m.addr off.1) ∙ apart.0,
      sym (with_else met a i m.inc else_.1) ∙ apart.1,
      apart_with met a i apart.2 off.2 else_.2,
    )

-- ---- a peer is forgotten
gone_first : (m : MetAt) (met : List MetAt) (a : ℕ) → (a == m.addr) ≡ true
    → without_met (m ∷ met) a ≡ met
gone_first m met a hit = rw hit refl

gone_later : (m : MetAt) (met : List MetAt) (a : ℕ) → (a == m.addr) ≡ false
    → without_met (m ∷ met) a ≡ m ∷ without_met met a
gone_later m met a miss = rw miss refl

pub without_here : (met : List MetAt) (a : ℕ) → AreApart met → inc_met (without_met met a) a ≡ None
without_here [] a apart = refl
without_here (m ∷ met) a apart = elim (eqb_tells a m.addr) [
  | inl same ↦
      ap (λ l. inc_met l a) (gone_first m met a same.0)
      ∙ subst (λ k. inc_met met k ≡ None) (sym same.1) apart.0
  | inr other ↦
      ap (λ l. inc_met l a) (gone_later m met a other.0)
      ∙ at_later m (without_met met a) a other.0 ∙ without_here met a apart.2
]

pub without_other : (met : List MetAt) (a b : ℕ) → a ≢ b
    → inc_met met b ≡ inc_met (without_met met a) b
without_other [] a b off = refl
without_other (m ∷ met) a b off = elim (eqb_tells a m.addr) [
  | inl same ↦
      let is : a ≡ m.addr = same.1 in
      let away : (b == m.addr) ≡ false = grind (arith, nat_tests) in
      at_later m met b away ∙ ap (λ l. inc_met l b) (sym (gone_first m met a same.0))
  | inr other ↦
      kept (eqb_tells b m.addr) (without_other met a b off)
      ∙ ap (λ l. inc_met l b) (sym (gone_later m met a other.0))
]
  where
    kept : (((b == m.addr) ≡ true) × (b ≡ m.addr)) ⊎ (((b == m.addr) ≡ false) × (b ≢ m.addr))
        → inc_met met b ≡ inc_met (without_met met a) b
        → inc_met (m ∷ met) b ≡ inc_met (m ∷ without_met met a) b
    kept (inl here) rest =
        at_first m met b here.0 ∙ sym (at_first m (without_met met a) b here.0)
    kept (inr there) rest =
        at_later m met b there.0 ∙ rest ∙ sym (at_later m (without_met met a) b there.0)

without_inc : (met : List MetAt) (a b : ℕ) → inc_met met b ≡ None
    → inc_met (without_met met a) b ≡ None
without_inc [] a b none = refl
without_inc (m ∷ met) a b none =
    let off = not_first m met b none in elim (eqb_tells a m.addr) [
      | inl same ↦ ap (λ l. inc_met l b) (gone_first m met a same.0) ∙ off.2
      | inr other ↦
          ap (λ l. inc_met l b) (gone_later m met a other.0)
          ∙ at_later m (without_met met a) b off.0 ∙ without_inc met a b off.2
    ]

without_addr : (met : List MetAt) (a : ℕ) (i : Inc) → addr_met met i ≡ None
    → addr_met (without_met met a) i ≡ None
without_addr [] a i none = refl
without_addr (m ∷ met) a i none =
    let off = not_first_of m met i none in elim (eqb_tells a m.addr) [
      | inl same ↦ ap (λ l. addr_met l i) (gone_first m met a same.0) ∙ off.2
      | inr other ↦
          ap (λ l. addr_met l i) (gone_later m met a other.0)
          ∙ of_later m (without_met met a) i off.0 ∙ without_addr met a i off.2
    ]

pub apart_without : (met : List MetAt) (a : ℕ) → AreApart met → AreApart (without_met met a)
apart_without [] a apart = tt
apart_without (m ∷ met) a apart = elim (eqb_tells a m.addr) [
  | inl same ↦ subst AreApart (sym (gone_first m met a same.0)) apart.2
  | inr other ↦
      subst AreApart (sym (gone_later m met a other.0)) (
        without_inc met a m.addr apart.0,
        without_addr met a m.inc apart.1,
        apart_without met a apart.2,
      )
]
