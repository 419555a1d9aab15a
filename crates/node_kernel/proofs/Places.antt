-- The open endpoints by the place of an incarnation among them.
use Rattle.std.proofs.Common.{◌≡◌, ℕ, zero, suc, ◌<◌, Bool, true, false, List, [], ◌∷◌, length}
use Rattle.std.proofs.Common.{get_or, set, Option, Some, None, is_some, refl, sym, ◌∙◌, ap, arith}
use Rattle.std.proofs.Common.{position, All}
use Rattle.std.proofs.lemmas.List.Elements.{All-tail}
use Rattle.std.proofs.lemmas.List.Quantifiers.{position-Some}
use Rattle.linx_base.specs.FirstMatch.{first_match, without_match}
use Rattle.linx_base.specs.declared.identity.Inc.{Inc}
use Rattle.linx_base.proofs.FirstMatches.{first_match-position, first_match_none}
use Rattle.linx_base.proofs.FirstMatches.{without_match_none, none_from_position}
use Rattle.linx_base.proofs.FirstMatches.{is_some-first_match}
use Rattle.linx_base.specs.declared.item.Item.{Item}
use Rattle.node_kernel.specs.Nodes.{OpenEndpoint, is_at, is_open, items_of, items_at, with_items}

module _ {X : Type 0} (p : X → Bool) where
  -- what has a place matches, and what has none doesn't
  pub first_match-no_place : (xs : List X) → position p xs ≡ None → first_match p xs ≡ None
  first_match-no_place xs is = first_match_none p xs (none_from_position p xs is)

  pub without_match-no_place : (xs : List X) → position p xs ≡ None → without_match p xs ≡ xs
  without_match-no_place xs is = without_match_none p xs (none_from_position p xs is)

  is_some_cases : (xs : List X) (r : Option ℕ) → position p xs ≡ r
      → is_some r ≡ is_some (first_match p xs)
  is_some_cases xs None is = ap is_some (sym (first_match-no_place xs is))
  is_some_cases [] (Some k) is = cc
  is_some_cases (x ∷ xs) (Some k) is = ap is_some (sym (first_match-position p (x ∷ xs) k x is))

  pub is_some-position : (xs : List X) → is_some (position p xs) ≡ is_some (first_match p xs)
  is_some-position xs = is_some_cases xs (position p xs) refl

-- another queue at the first endpoint that is this incarnation
with_items_at : (es : List OpenEndpoint) (i : Inc) (items : List Item) (k : ℕ) (d : OpenEndpoint)
    → k < length es → is_at i (get_or es k d) ≡ true
    → ((j : ℕ) → j < k → is_at i (get_or es j d) ≡ false)
    → with_items es i items ≡ set es k (record (get_or es k d) { items = items })
with_items_at [] i items k d inside passes earlier = absurd (omega arith)
with_items_at (e ∷ es) i items zero d inside passes earlier = rw passes refl
with_items_at (e ∷ es) i items (suc k) d inside passes earlier =
    let fails : is_at i e ≡ false = earlier 0 (omega arith) in
    rw fails (ap (λ l. e ∷ l) (with_items_at es i items k d (omega arith) passes
    (λ j below. earlier (suc j) (omega arith))))

pub with_items-position : (es : List OpenEndpoint) (i : Inc) (items : List Item) (k : ℕ)
    (d : OpenEndpoint) → position (is_at i) es ≡ Some k
    → with_items es i items ≡ set es k (record (get_or es k d) { items = items })
with_items-position es i items k d is =
    let at = position-Some (is_at i) es k d is in with_items_at es i items k d at.0 at.1 at.2

pub items_at-position : (es : List OpenEndpoint) (i : Inc) (k : ℕ) (d : OpenEndpoint)
    → position (is_at i) es ≡ Some k → items_at es i ≡ (get_or es k d).items
items_at-position es i k d is = ap items_of (first_match-position (is_at i) es k d is)

-- a queue is changed where its endpoint stands
pub put_in_place : (es : List OpenEndpoint) (i : Inc) (items : List Item) (k : ℕ)
    (d e : OpenEndpoint) → position (is_at i) es ≡ Some k
    → e ≡ record (get_or es k d) { items = items } → set es k e ≡ with_items es i items
put_in_place es i items k d e is eq = ap (set es k) eq ∙ sym (with_items-position es i items k d is)

-- the incarnation has a place exactly where it is open
pub is_open-position : (es : List OpenEndpoint) (i : Inc)
    → is_some (position (is_at i) es) ≡ is_open es i
is_open-position es i = is_some-position (is_at i) es ∙ is_some-first_match (is_at i) es

-- what has no place isn't open, and has no queue
pub is_open-no_place : (es : List OpenEndpoint) (i : Inc) → position (is_at i) es ≡ None
    → is_open es i ≡ false
is_open-no_place es i is = sym (is_open-position es i) ∙ ap is_some is

pub is_open-place : (es : List OpenEndpoint) (i : Inc) (k : ℕ) → position (is_at i) es ≡ Some k
    → is_open es i ≡ true
is_open-place es i k is = sym (is_open-position es i) ∙ ap is_some is

pub items_at-no_place : (es : List OpenEndpoint) (i : Inc) → position (is_at i) es ≡ None
    → items_at es i ≡ []
items_at-no_place es i is = ap items_of (first_match-no_place (is_at i) es is)

pub with_items-no_place : (es : List OpenEndpoint) (i : Inc) (items : List Item)
    → position (is_at i) es ≡ None → with_items es i items ≡ es
with_items-no_place es i items is = with_items-none es (none_from_position (is_at i) es is)
  where
    with_items-none : (es : List OpenEndpoint) → All (λ e. is_at i e ≡ false) es
        → with_items es i items ≡ es
    with_items-none [] all = refl
    with_items-none (e ∷ es) all =
        let fails : is_at i e ≡ false = all 0 e (omega arith) in
        rw fails (ap (λ l. e ∷ l) (with_items-none es (All-tail (λ f. is_at i f ≡ false) e es all)))
