-- Open endpoints, past one more step.
use Rattle.std.proofs.Common.{subst, ◌≡◌, ℕ, Bool, true, false, cond, not, ◌||◌, ◌&&◌, ◌⊎◌, inl}
use Rattle.std.proofs.Common.{inr, List, [], ◌∷◌, ◌++◌, refl, sym, ◌∙◌, ap, filter, filter_map}
use Rattle.std.proofs.Common.{true≢false}
use Rattle.std.specs.List.{list_any}
use Rattle.std.proofs.lemmas.Bool.{or_cases, or_left, or_right, false_from_ne_true}
use Rattle.std.proofs.lemmas.List.Elements.{filter_map-append}
use Rattle.std.proofs.lemmas.List.Folds.{list_any-append}
use Rattle.linx_base.specs.Numbers.{is_on}
use Rattle.linx_base.specs.Peers.{same_inc}
use Rattle.linx_base.specs.declared.identity.Inc.{Inc}
use Rattle.linx_base.specs.declared.identity.Peer.TheVariants.{Here}
use Rattle.trunk_record.specs.Sayings.{Said, published, asked, signaled, unpublished}
use Rattle.journal.specs.History.{name_or_none, effects_of, opened_in, closes, is_closed, openings}
use Rattle.journal.specs.History.{open_endpoints, name_of, name_in, opens, opening_name, opened_by}
use Rattle.journal.specs.Living.{is_alive}
use Rattle.journal.specs.declared.effect.Effect.{Effect}
use Rattle.journal.specs.declared.effect.Effect.TheVariants.{Opened}
use Rattle.journal.specs.declared.effect.Step.{Step}
use Rattle.journal.proofs.Lists.{list_any-filter}
use Rattle.journal.proofs.Openings.{list_any-passed, open-after, same_inc-true}
use Rattle.link_laws.specs.Brought.{was_opened}
use Rattle.link_laws.specs.Linked.{IsTrueOf}
use Rattle.link_laws.proofs.Sides.WordsAfterStep.{IsDone, closed-done, closes-done, name-done}
use Rattle.link_laws.proofs.Sides.WordsAfterStep.{opens-done, openings-done}

pub both_true : (s t : Bool) → (s && t) ≡ true → (s ≡ true) × (t ≡ true)
both_true true true e = (refl, refl)
both_true true false e = absurd (true≢false (sym e))
both_true false t e = absurd (true≢false (sym e))

-- a test of one incarnation in a filtered list
test_first : (px pi u r f : Bool) → (u ≡ true → px ≡ pi) → f ≡ (pi && r)
    → cond px (u || f) f ≡ (pi && (u || r))
test_first true pi true r f same rest = ap (λ t. t && true) (same refl)
test_first false pi true r f same rest = rest ∙ subst (λ t. (t && r) ≡ (t && true)) (same refl) refl
test_first true pi false r f same rest = rest
test_first false pi false r f same rest = rest

any-cond : {X : Type 0} (q : X → Bool) (t : Bool) (x : X) (xs : List X)
    → list_any q (cond t (x ∷ xs) xs) ≡ cond t (q x || list_any q xs) (list_any q xs)
any-cond q true x xs = refl
any-cond q false x xs = refl

pub any-filter : {X : Type 0} (q p : X → Bool) (pi : Bool) → ((x : X) → q x ≡ true → p x ≡ pi)
    → (xs : List X) → list_any q (filter p xs) ≡ (pi && list_any q xs)
any-filter q p true same [] = refl
any-filter q p false same [] = refl
any-filter q p pi same (x ∷ xs) =
    any-cond q (p x) x (filter p xs) ∙ test_first (p x) pi (q x) (list_any q xs)
    (list_any q (filter p xs)) (same x) (any-filter q p pi same xs)

-- where an open endpoint of a node comes from: it was open, or the step opens it
pub was_open_or_opened : (P : List Step) (s : Step) (n : ℕ) (i : Inc)
    → is_alive (s ∷ P) n (Here i) ≡ true → (is_alive P n (Here i) ≡ true)
    ⊎ (list_any (same_inc i) (opened_by n s.effects) ≡ true)
was_open_or_opened P s n i is =
    or_cases (list_any (same_inc i) (open_endpoints P n))
    (list_any (same_inc i) (opened_by n s.effects))
    (sym (list_any-append (same_inc i) (open_endpoints P n) (opened_by n s.effects))
    ∙ list_any-filter (same_inc i) (λ j. not (list_any (closes j) s.effects)) (open_endpoints P n
    ++ opened_by n s.effects) is)

-- an open endpoint is on its node
pub open-on : (P : List Step) (n : ℕ) (i : Inc) → is_alive P n (Here i) ≡ true → is_on n i ≡ true
open-on [] n i is = absurd (true≢false (sym is))
open-on (s ∷ P) n i is =
    elim (was_open_or_opened P s n i is) [
      | inl was ↦ open-on P n i was
      | inr new ↦ list_any-passed (is_on n) i (filter_map opened_in s.effects) new
    ]

-- what a step closes isn't open after it
pub closed-dead : (P : List Step) (s : Step) (n : ℕ) (i : Inc)
    → list_any (closes i) s.effects ≡ true → is_alive (s ∷ P) n (Here i) ≡ false
closed-dead P s n i closed = false_from_ne_true (is_alive (s ∷ P) n (Here i)) (λ is.
    true≢false (sym closed ∙ not_true (list_any (closes i) s.effects)
    (list_any-passed (λ j. not (list_any (closes j) s.effects)) i (open_endpoints P n
    ++ opened_by n s.effects) is)))
  where
    not_true : (t : Bool) → not t ≡ true → t ≡ false
    not_true true e = absurd (true≢false (sym e))
    not_true false e = refl

-- what is open after a step, the step doesn't close
pub stays-unclosed : (P : List Step) (s : Step) (n : ℕ) (i : Inc)
    → is_alive (s ∷ P) n (Here i) ≡ true → list_any (closes i) s.effects ≡ false
stays-unclosed P s n i is =
    false_from_ne_true (list_any (closes i) s.effects) (λ closed.
    true≢false (sym is ∙ closed-dead P s n i closed))

-- what effects open, one of them opens
pub opened-any : (i : Inc) (es : List Effect)
    → list_any (same_inc i) (filter_map opened_in es) ≡ list_any (opens i) es
opened-any i [] = refl
opened-any i (Opened j ∷ es) = ap (λ t. same_inc i j || t) (opened-any i es)
opened-any i (_ ∷ es) = opened-any i es

-- what a step opens was not opened before
abbrev pub OpensNew : List Step → List Effect → Type 0
OpensNew P es = (i : Inc) → list_any (same_inc i) (openings P) ≡ true
    → list_any (opens i) es ≡ false

module _ (P : List Step) (s : Step) (es items : List Effect) (done : IsDone s es items) (n : ℕ)
    (new : OpensNew P es) where
  pub opened-more : (i : Inc) → was_opened P n i ≡ true → was_opened (s ∷ P) n i ≡ true
  opened-more i was =
      let both = both_true (is_on n i) (list_any (same_inc i) (openings P)) was in
      ap (λ k. is_on n i && list_any (same_inc i) k) (openings-done P s es items done)
      ∙ ap (λ t. t && list_any (same_inc i) (openings P ++ filter_map opened_in es)) both.0
      ∙ list_any-append (same_inc i) (openings P) (filter_map opened_in es)
      ∙ or_left (list_any (same_inc i) (openings P))
      (list_any (same_inc i) (filter_map opened_in es)) both.1

  pub closed-more : (i : Inc) → is_closed P i ≡ true → is_closed (s ∷ P) i ≡ true
  closed-more i was = closed-done P s es items done i
      ∙ or_left (is_closed P i) (list_any (closes i) es) was

  pub name-same : (i : Inc) → list_any (same_inc i) (openings P) ≡ true
      → name_of (s ∷ P) i ≡ name_of P i
  name-same i was = ap name_or_none (name-done P s es items done i
      ∙ ap (λ t. cond t (name_in s.head) (opening_name P i)) (new i was))

  -- an endpoint that is closed and isn't opened again stays closed
  pub dead-more : (i : Inc) → was_opened P n i ≡ true → is_alive P n (Here i) ≡ false
      → is_alive (s ∷ P) n (Here i) ≡ false
  dead-more i was dead = false_from_ne_true (is_alive (s ∷ P) n (Here i)) (λ is.
      let parts = both_true (is_on n i) (list_any (same_inc i) (openings P)) was in
      elim (was_open_or_opened P s n i is) [
        | inl open_then ↦ true≢false (sym open_then ∙ dead)
        | inr opened ↦ true≢false (sym (list_any-filter (same_inc i) (is_on n)
            (filter_map opened_in s.effects) opened) ∙ opened-any i s.effects
            ∙ opens-done P s es items done i ∙ new i parts.1)
      ])

  -- what was said stays true
  pub still-true : (w : Said) → IsTrueOf P n w → IsTrueOf (s ∷ P) n w
  still-true (published i name) was = (
    opened-more i was.0,
    name-same i (both_true (is_on n i) (list_any (same_inc i) (openings P)) was.0).1 ∙ was.1,
  )
  still-true (asked name) was = tt
  still-true (signaled a b note) was = tt
  still-true (unpublished i) was = record {
    opened = opened-more i was.opened;
    closed = closed-more i was.closed;
    dead = dead-more i was.opened was.dead;
  }

  -- what is open and isn't closed by the step, is open
  pub open-more : (i : Inc) → is_alive P n (Here i) ≡ true → list_any (closes i) es ≡ false
      → is_alive (s ∷ P) n (Here i) ≡ true
  open-more i was stays = open-after P s n i (closes-done P s es items done i ∙ stays) (inl was)

-- who has this endpoint in its node's list was opened there
pub open-opened : (P : List Step) (n : ℕ) (i : Inc) → is_alive P n (Here i) ≡ true
    → was_opened P n i ≡ true
open-opened [] n i is = absurd (true≢false (sym is))
open-opened (s ∷ P) n i is =
    ap (λ t. t && list_any (same_inc i) (openings (s ∷ P))) (open-on (s ∷ P) n i is)
    ∙ ap (list_any (same_inc i)) (filter_map-append opened_in (effects_of P) s.effects)
    ∙ list_any-append (same_inc i) (openings P) (filter_map opened_in s.effects)
    ∙ elim (was_open_or_opened P s n i is) [
      | inl was ↦ or_left (list_any (same_inc i) (openings P))
          (list_any (same_inc i) (filter_map opened_in s.effects))
          (both_true (is_on n i) (list_any (same_inc i) (openings P)) (open-opened P n i was)).1
      | inr new ↦ or_right (list_any (same_inc i) (openings P))
          (list_any (same_inc i) (filter_map opened_in s.effects))
          (list_any-filter (same_inc i) (is_on n) (filter_map opened_in s.effects) new)
    ]

-- what a step opens on its node and doesn't close is open after it
pub open-new : (P : List Step) (s : Step) (es items : List Effect) → IsDone s es items
    → (n : ℕ) (i : Inc) → is_on n i ≡ true → list_any (opens i) es ≡ true
    → list_any (closes i) es ≡ false → is_alive (s ∷ P) n (Here i) ≡ true
open-new P s es items done n i on opened stays =
    open-after P s n i (closes-done P s es items done i ∙ stays)
    (inr (any-filter (same_inc i) (is_on n) true (λ x is. ap (is_on n) (sym (same_inc-true i x is))
    ∙ on) (filter_map opened_in s.effects)
    ∙ opened-any i s.effects ∙ opens-done P s es items done i ∙ opened))
