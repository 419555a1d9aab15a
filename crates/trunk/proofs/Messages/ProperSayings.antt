-- What proper saying tells of what was said before and later.
use Rattle.std.proofs.Common.{◌≡◌, Bool, true, false, not, ◌&&◌, ◌||◌, List, [], ◌∷◌, ◌++◌, inl}
use Rattle.std.proofs.Common.{inr, refl, sym, ◌∙◌, ap, subst, map, true≢false}
use Rattle.std.proofs.lemmas.Bool.{false_from_ne_true, or_right}
use Rattle.std.proofs.lemmas.List.Folds.{list_any-append}
use Rattle.linx_base.specs.Peers.{same_inc}
use Rattle.linx_base.specs.declared.identity.Inc.{Inc}
use Rattle.carrier.proofs.Fronts.{either}
use Rattle.trunk_record.specs.Sayings.{Given, IsProper, Said, arrived, asked, asked_for, freed}
use Rattle.trunk_record.specs.Sayings.{gone, has_gone, has_met, heard_as, is_live, met, published}
use Rattle.trunk_record.specs.Sayings.{publishes, signaled, unpublished, unpublishes, was_published}
use Rattle.trunk_record.specs.Sayings.{was_unpublished}
use Rattle.trunk_record.proofs.Sayings.{live-not_unpublished, live-published, published-live}
use Rattle.trunk_record.proofs.Sayings.{same_inc-is}

-- what was published before isn't published later
pub published_before : (i : Inc) (later before : List Said) → IsProper (later ++ before)
    → was_published i before ≡ true → was_published i later ≡ false
published_before i [] before proper was = refl
published_before i (published j name ∷ later) before proper was =
    let other : same_inc i j ≡ false = false_from_ne_true (same_inc i j) (λ e.
    let is : i ≡ j = same_inc-is i j e in
    let all : was_published i (later ++ before) ≡ true =
    list_any-append (publishes i) later before
    ∙ or_right (was_published i later) (was_published i before) was in
    true≢false (sym all ∙ subst (λ (k : Inc). was_published k (later ++ before) ≡ false) (sym is)
    proper.0)) in
    rw other (published_before i later before proper.1 was)
published_before i (asked name ∷ later) before proper was =
    published_before i later before proper was
published_before i (signaled a b note ∷ later) before proper was =
    published_before i later before proper.1 was
published_before i (unpublished j ∷ later) before proper was =
    published_before i later before proper.1 was

-- what was unpublished before isn't unpublished later
pub unpublished_before : (i : Inc) (later before : List Said) → IsProper (later ++ before)
    → was_unpublished i before ≡ true → was_unpublished i later ≡ false
unpublished_before i [] before proper was = refl
unpublished_before i (published j name ∷ later) before proper was =
    unpublished_before i later before proper.1 was
unpublished_before i (asked name ∷ later) before proper was =
    unpublished_before i later before proper was
unpublished_before i (signaled a b note ∷ later) before proper was =
    unpublished_before i later before proper.1 was
unpublished_before i (unpublished j ∷ later) before proper was =
    let other : same_inc i j ≡ false = false_from_ne_true (same_inc i j) (λ e.
    let is : i ≡ j = same_inc-is i j e in
    let all : was_unpublished i (later ++ before) ≡ true =
    list_any-append (unpublishes i) later before
    ∙ or_right (was_unpublished i later) (was_unpublished i before) was in
    let live : is_live i (later ++ before) ≡ true =
    subst (λ (k : Inc). is_live k (later ++ before) ≡ true) (sym is) proper.0 in
    true≢false (sym all ∙ live-not_unpublished i (later ++ before) proper.1 live)) in
    rw other (unpublished_before i later before proper.1 was)

-- an incarnation is live where it was published and not unpublished
pub live_is : (i : Inc) (said : List Said) → IsProper said
    → is_live i said ≡ (was_published i said && not (was_unpublished i said))
live_is i said proper = elim (either (is_live i said)) [
  | inl live ↦
      rw (live, live-published i said live, live-not_unpublished i said proper live) refl
  | inr dead ↦
      dead ∙ sym (by_both (was_published i said) (was_unpublished i said) refl refl dead)
]
  where
    by_both : (p u : Bool) → was_published i said ≡ p → was_unpublished i said ≡ u
        → is_live i said ≡ false → (p && not u) ≡ false
    by_both false u e f dead = refl
    by_both true true e f dead = refl
    by_both true false e f dead =
        absurd (true≢false (sym (published-live i said e f) ∙ dead))

-- a peer was met where its publishing was heard, and has gone where its unpublishing was
pub met_heard : (i : Inc) (given : List Given)
    → has_met i given ≡ was_published i (map heard_as given)
met_heard i [] = refl
met_heard i (met j name ∷ before) = ap (λ t. same_inc i j || t) (met_heard i before)
met_heard i (asked_for name ∷ before) = met_heard i before
met_heard i (arrived a b note ∷ before) = met_heard i before
met_heard i (freed a b note ∷ before) = met_heard i before
met_heard i (gone j ∷ before) = met_heard i before

pub gone_heard : (i : Inc) (given : List Given)
    → has_gone i given ≡ was_unpublished i (map heard_as given)
gone_heard i [] = refl
gone_heard i (met j name ∷ before) = gone_heard i before
gone_heard i (asked_for name ∷ before) = gone_heard i before
gone_heard i (arrived a b note ∷ before) = gone_heard i before
gone_heard i (freed a b note ∷ before) = gone_heard i before
gone_heard i (gone j ∷ before) = ap (λ t. same_inc i j || t) (gone_heard i before)
