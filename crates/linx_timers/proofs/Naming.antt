-- The order of names, and the first name that isn't below another.
use Rattle.std.proofs.Common.{◌≡◌, ◌⊎◌, inl, inr, ℕ, ◌<◌, ◌≤◌, Bool, true, false, true≢false, List}
use Rattle.std.proofs.Common.{[], ◌∷◌, refl, ap, sym, subst, ◌∙◌, arith, Some, None, ◌==◌}
use Rattle.std.proofs.Common.{Ordering, Less, Equal, Greater, nat_cmp}
use Rattle.std.specs.Ordering.{is_le, ordering_then}
use Rattle.std.specs.Cmp.{nat_cmp_is}
use Rattle.std.specs.List.{AllByRecursion}
use Rattle.std.proofs.lemmas.Bool.{cases_Bool}
use Rattle.std.proofs.lemmas.Bool.Decides.{nat_tests}
use Rattle.std.proofs.lemmas.Cmp.{ranked}
use Rattle.linx_base.specs.FirstMatch.{first_match}
use Rattle.sorted_set.specs.Sorted.{Ascends}
use Rattle.linx_timers.specs.declared.entry.Entry.{Entry}
use Rattle.linx_timers.specs.declared.entry.Name.{Name}
use Rattle.linx_timers.specs.Entries.{has_reference, is_of, last_reference, name_of, name_cmp}
use Rattle.linx_timers.specs.Entries.{IsAmong}

same_number : (t : ℕ) → nat_cmp t t ≡ Equal
same_number t = sym (nat_cmp_is t t Equal refl)

pub name_same : (n : Name) → name_cmp n n ≡ Equal
name_same n =
    rw (same_number n.client, same_number n.reference, same_number n.ticket, same_number n.slot)
    refl

-- what an answer says of both parts
equal_then : (a b : Ordering) → ordering_then a b ≡ Equal → (a ≡ Equal) × (b ≡ Equal)
equal_then Less b is = cc
equal_then Equal b is = (refl, is)
equal_then Greater b is = cc

le_then : (a b : Ordering) → is_le (ordering_then a b) ≡ true
    → (a ≡ Less) ⊎ ((a ≡ Equal) × (is_le b ≡ true))
le_then Less b is = inl refl
le_then Equal b is = inr (refl, is)
le_then Greater b is = absurd (true≢false (sym is))

number : (x y : ℕ) → nat_cmp x y ≡ Equal → x ≡ y
number x y is = ranked x y Equal (sym is)

below : (x y : ℕ) → nat_cmp x y ≡ Less → x < y
below x y is = ranked x y Less (sym is)

-- names whose order is that of equals are one
abbrev by_slot : Name → Name → Ordering
by_slot a b = nat_cmp a.slot b.slot

abbrev by_ticket : Name → Name → Ordering
by_ticket a b = ordering_then (nat_cmp a.ticket b.ticket) (by_slot a b)

abbrev by_reference : Name → Name → Ordering
by_reference a b = ordering_then (nat_cmp b.reference a.reference) (by_ticket a b)

abbrev make : ℕ → ℕ → ℕ → ℕ → Name
make client reference ticket slot = record {
  client = client;
  slot = slot;
  reference = reference;
  ticket = ticket;
}

pub same_name : (a b : Name) → name_cmp a b ≡ Equal → a ≡ b
same_name a b is =
    let one = equal_then (nat_cmp a.client b.client) (by_reference a b) is in
    let two = equal_then (nat_cmp b.reference a.reference) (by_ticket a b) one.1 in
    let three = equal_then (nat_cmp a.ticket b.ticket) (by_slot a b) two.1 in
    ap (λ c. make c a.reference a.ticket a.slot) (number a.client b.client one.0)
    ∙ ap (λ r. make b.client r a.ticket a.slot) (sym (number b.reference a.reference two.0))
    ∙ ap (λ t. make b.client b.reference t a.slot) (number a.ticket b.ticket three.0)
    ∙ ap (λ s. make b.client b.reference b.ticket s) (number a.slot b.slot three.1)

-- what holds of a name that isn't above another
pub record AtMost (a b : Name) : Type 0 where
  pub client : a.client ≤ b.client
  pub reference : a.client ≡ b.client → b.reference ≤ a.reference
  pub ticket : a.client ≡ b.client → a.reference ≡ b.reference → a.ticket ≤ b.ticket

pub at_most : (a b : Name) → is_le (name_cmp a b) ≡ true → AtMost a b
at_most a b le = elim (le_then (nat_cmp a.client b.client) (by_reference a b) le) [
  | inl less ↦
      let client : a.client < b.client = below a.client b.client less in
      record {
        client = omega arith;
        reference = λ same. omega arith;
        ticket = λ same also. omega arith;
      }
  | inr both ↦
      let client : a.client ≡ b.client = number a.client b.client both.0 in
      elim (le_then (nat_cmp b.reference a.reference) (by_ticket a b) both.1) [
        | inl less ↦
            let reference : b.reference < a.reference = below b.reference a.reference less in
            record {
              client = omega arith;
              reference = λ same. omega arith;
              ticket = λ same also. omega arith;
            }
        | inr rest ↦
            let reference : b.reference ≡ a.reference = number b.reference a.reference rest.0 in
            elim (le_then (nat_cmp a.ticket b.ticket) (by_slot a b) rest.1) [
              | inl less ↦
                  let ticket : a.ticket < b.ticket = below a.ticket b.ticket less in
                  record {
                    client = omega arith;
                    reference = λ same. omega arith;
                    ticket = λ same also. omega arith;
                  }
              | inr last ↦
                  let ticket : a.ticket ≡ b.ticket = number a.ticket b.ticket last.0 in
                  record {
                    client = omega arith;
                    reference = λ same. omega arith;
                    ticket = λ same also. omega arith;
                  }
            ]
      ]
]

-- THE LEAST NAME of a client, and of a reference
low : (x : ℕ) → is_le (nat_cmp 0 x) ≡ true
low x = by (nat_cmp 0 x) refl
  where
    by : (o : Ordering) → nat_cmp 0 x ≡ o → is_le o ≡ true
    by Less is = refl
    by Equal is = refl
    by Greater is =
        let under : x < 0 = ranked 0 x Greater (sym is) in absurd (omega (arith, under))

le_of : (x y : ℕ) → x ≤ y → (o : Ordering) → is_le o ≡ true
    → is_le (ordering_then (nat_cmp x y) o) ≡ true
le_of x y up o rest = by (nat_cmp x y) refl
  where
    by : (p : Ordering) → nat_cmp x y ≡ p → is_le (ordering_then p o) ≡ true
    by Less is = refl
    by Equal is = rest
    by Greater is = let under : y < x = ranked x y Greater (sym is) in absurd (omega (arith, up, under))

abbrev pub least : ℕ → ℕ → Name
least client reference = record { client = client; slot = 0; reference = reference; ticket = 0 }

pub parts_of : (client reference : ℕ) (e : Entry) → has_reference client reference e ≡ true
    → (client ≡ e.client) × (reference ≡ e.reference)
parts_of client reference e is = elim (cases_Bool (client == e.client)) [
  | inl one ↦
      let two : (reference == e.reference) ≡ true = rw one at is in
      (grind (arith, nat_tests), grind (arith, nat_tests))
  | inr miss ↦ let out : false ≡ true = rw miss at is in cc
]

pub client_of : (client : ℕ) (e : Entry) → is_of client e ≡ true → client ≡ e.client
client_of client e is = grind (arith, nat_tests)

pub least_of : (client reference : ℕ) (e : Entry) → has_reference client reference e ≡ true
    → is_le (name_cmp (least client reference) (name_of e)) ≡ true
least_of client reference e is =
    let parts = parts_of client reference e is in
    rw (parts.0, parts.1)
    (rw (same_number e.client, same_number e.reference) (le_of 0 e.ticket (omega arith)
    (nat_cmp 0 e.slot) (low e.slot)))

pub least_of_client : (client : ℕ) (e : Entry) → e.reference ≤ last_reference
    → is_of client e ≡ true → is_le (name_cmp (least client last_reference) (name_of e)) ≡ true
least_of_client client e bound is =
    rw (client_of client e is)
    (rw (same_number e.client) (le_of e.reference last_reference bound
    (ordering_then (nat_cmp 0 e.ticket) (nat_cmp 0 e.slot)) (le_of 0 e.ticket (omega arith)
    (nat_cmp 0 e.slot) (low e.slot))))

-- NAMES THAT ASCEND
pub all_among : (P : Name → Type 0) (ns : List Name) (y : Name) → AllByRecursion P ns
    → IsAmong ns y → P y
all_among P [] y all among = absurd among
all_among P (n ∷ ns) y all (inl here) = subst P here all.0
all_among P (n ∷ ns) y all (inr later) = all_among P ns y all.1 later

module _ (from : Name) where
  abbrev pub reaches : Name → Bool
  reaches y = is_le (name_cmp from y)

  -- none reaches as far where there is no first
  pub first_none : (ns : List Name) (y : Name) → first_match reaches ns ≡ None → IsAmong ns y
      → reaches y ≡ true → ⊥
  first_none [] y none among reach = among
  first_none (n ∷ ns) y none among reach = elim (cases_Bool (reaches n)) [
    | inl hit ↦ let found : Some n ≡ None = rw hit at none in cc
    | inr miss ↦
        let rest : first_match reaches ns ≡ None = rw miss at none in
        elim among [
          | inl here ↦ true≢false (sym reach ∙ ap reaches (sym here) ∙ miss)
          | inr later ↦ first_none ns y rest later reach
        ]
  ]

  -- and the first is below all others
  pub first_least : (ns : List Name) (n y : Name) → Ascends name_cmp ns
      → first_match reaches ns ≡ Some n → IsAmong ns y → reaches y ≡ true
      → is_le (name_cmp n y) ≡ true
  first_least [] n y up is among reach = absurd among
  first_least (m ∷ ns) n y up is among reach = elim (cases_Bool (reaches m)) [
    | inl hit ↦
        let found : Some m ≡ Some n = rw hit at is in
        let same : m ≡ n = cc in
        elim among [
          | inl here ↦
              subst (λ k. is_le (name_cmp k y) ≡ true) same
              (subst (λ k. is_le (name_cmp m k) ≡ true) here (ap is_le (name_same m)))
          | inr later ↦
              subst (λ k. is_le (name_cmp k y) ≡ true) same
              (ap is_le (all_among (λ k. name_cmp m k ≡ Less) ns y up.0 later))
        ]
    | inr miss ↦
        let rest : first_match reaches ns ≡ Some n = rw miss at is in
        elim among [
          | inl here ↦ absurd (true≢false (sym reach ∙ ap reaches (sym here) ∙ miss))
          | inr later ↦ first_least ns n y up.1 rest later reach
        ]
  ]
