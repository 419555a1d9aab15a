-- The queue of an endpoint after one more step.
use Rattle.std.proofs.Common.{◌≡◌, ℕ, suc, ◌≤◌, ◌+◌, Bool, true, false, cond, not, List, [], ◌∷◌}
use Rattle.std.proofs.Common.{◌++◌, length, Some, refl, sym, ap, subst, arith, filter}
use Rattle.std.specs.List.{list_any, AllByRecursion}
use Rattle.std.proofs.lemmas.Bool.Decides.{nat_tests}
use Rattle.linx_base.specs.FirstMatch.{first_match, without_match}
use Rattle.linx_base.specs.Peers.{same_position}
use Rattle.linx_base.specs.declared.identity.Inc.{Inc}
use Rattle.linx_base.specs.declared.identity.ItemAt.{ItemAt}
use Rattle.linx_base.specs.declared.item.Item.{Item}
use Rattle.sigsel.specs.Selection.{is_selected, first_selected, without_first}
use Rattle.sigsel.specs.declared.sigsel.Sigsel.{Sigsel}
use Rattle.journal.specs.declared.head.Head.{Head}
use Rattle.journal.specs.declared.head.Head.TheVariants.{Take}
use Rattle.journal.specs.declared.effect.Effect.{Effect}
use Rattle.journal.specs.declared.effect.Effect.TheVariants.{Arrived, Found, Notified}
use Rattle.journal.specs.declared.effect.Step.{Step}
use Rattle.journal.specs.History.{endpoint_by, opens}
use Rattle.journal.specs.Traffic.{is_endpoint}
use Rattle.journal.specs.Queues.{is_item_of, items_from, items_in, left_by, queued}
use Rattle.journal.proofs.Lists.{all-append, all-filter, all-impl, all-first_match, filter-all}

-- one position
pub position_itself : (p : ItemAt) → same_position p p ≡ true
position_itself p = grind (arith, nat_tests)

pub position_sym : (p q : ItemAt) → same_position p q ≡ false → same_position q p ≡ false
position_sym p q h = grind (arith, nat_tests)

-- the second item doesn't stand where the first does
abbrev pub Differs : Item → Item → Type 0
Differs x y = same_position x.pos y.pos ≡ false

-- no two items stand at one position
abbrev pub AllDiffer : List Item → Type 0
AllDiffer [] = Unit {0}
AllDiffer (x ∷ xs) = AllByRecursion (Differs x) xs × AllDiffer xs

pub differ-append : (xs ys : List Item) → AllDiffer xs → AllDiffer ys
    → AllByRecursion (λ x. AllByRecursion (Differs x) ys) xs → AllDiffer (xs ++ ys)
differ-append [] ys in_xs in_ys across = in_ys
differ-append (x ∷ xs) ys in_xs in_ys across =
    (all-append (Differs x) xs ys in_xs.0 across.0, differ-append xs ys in_xs.1 in_ys across.1)

pub differ-filter : (p : Item → Bool) (xs : List Item) → AllDiffer xs → AllDiffer (filter p xs)
differ-filter p [] all = tt
differ-filter p (x ∷ xs) all =
    elim (p x) as (λ b. AllDiffer (cond b (x ∷ filter p xs) (filter p xs))) [
      | true ↦ (all-filter (Differs x) p xs all.0, differ-filter p xs all.1)
      | false ↦ differ-filter p xs all.1
    ]

-- the item doesn't stand at this position
abbrev pub stands_off : ItemAt → Item → Bool
stands_off at x = not (same_position at x.pos)

-- where no two stand at one position, to take out the position of the first match is to take out
-- the first match
pub without_first_position : (p : Item → Bool) (xs : List Item) (e : Item) → AllDiffer xs
    → first_match p xs ≡ Some e → filter (stands_off e.pos) xs ≡ without_match p xs
without_first_position p [] e all is = cc
without_first_position p (x ∷ xs) e all is =
    let go : (b : Bool) → cond b (Some x) (first_match p xs) ≡ Some e
    → filter (stands_off e.pos) (x ∷ xs) ≡ cond b xs (x ∷ without_match p xs) = λ b.
    elim b as (λ c. cond c (Some x) (first_match p xs) ≡ Some e
    → filter (stands_off e.pos) (x ∷ xs) ≡ cond c xs (x ∷ without_match p xs)) [
      | true ↦ λ same.
          let is_x : x ≡ e = cc in
          let others : AllByRecursion (λ y. stands_off x.pos y ≡ true) xs =
          all-impl (Differs x) (λ y. stands_off x.pos y ≡ true) (λ y d. ap not d) xs all.0 in
          let P : Item → Type 0 = λ d. filter (stands_off d.pos) (x ∷ xs) ≡ xs in
          subst P is_x (rw (position_itself x.pos) (filter-all (stands_off x.pos) xs others))
      | false ↦ λ later.
          let apart : same_position e.pos x.pos ≡ false =
          position_sym x.pos e.pos (all-first_match (Differs x) p xs e all.0 later) in
          rw apart (ap (λ l. x ∷ l) (without_first_position p xs e all.1 later))
    ]
    in
    go (p x) is

-- the items that a step brings stand in it, from their place on
abbrev StandsFrom : ℕ → ℕ → Item → Type 0
StandsFrom step place x = (x.pos.step ≡ step) × (place ≤ x.pos.place)

-- an item stands in one of the first steps, so many
abbrev pub StandsWithin : ℕ → Item → Type 0
StandsWithin count x = x.pos.step ≤ count

-- an item stands at this position
abbrev StandsAt : ItemAt → Item → Type 0
StandsAt at x = x.pos ≡ at

-- an effect brings at most one item
data IsAtMostOne (at : ItemAt) (items : List Item) : Type 0 where
  no_item : items ≡ [] → IsAtMostOne at items
  one_item : (x : Item) → x.pos ≡ at → items ≡ x ∷ [] → IsAtMostOne at items

one_brought : (at : ItemAt) (e : Effect) → IsAtMostOne at (items_from at e)
one_brought at (Arrived i from note) = one_item _ refl refl
one_brought at (Found i from note hunt) = one_item _ refl refl
one_brought at (Notified i from note reference reason) = one_item _ refl refl
one_brought at _ = no_item refl

brought_for : (b : Bool) (at : ItemAt) (e : Effect) → IsAtMostOne at (cond b (items_from at e) [])
brought_for true at e = one_brought at e
brought_for false at e = no_item refl

module _ (j : Inc) (step : ℕ) where
  items_stand : (place : ℕ) (es : List Effect)
      → AllByRecursion (StandsFrom step place) (items_in j step place es)
  items_stand place [] = tt
  items_stand place (e ∷ es) =
      let at : ItemAt = record { step = step; place = place } in
      let rest : List Item = items_in j step (place + 1) es in
      let later : AllByRecursion (StandsFrom step place) rest =
      all-impl (StandsFrom step (place + 1)) (StandsFrom step place)
      (λ x h. (h.0, omega arith)) rest (items_stand (place + 1) es) in
      let P : List Item → Type 0 = λ here. AllByRecursion (StandsFrom step place) (here ++ rest) in
      elim (brought_for (is_item_of j e) at e) [
        | no_item none ↦ subst P (sym none) later
        | one_item x stands one ↦
            let here : StandsFrom step place x =
            subst (λ p. (p.step ≡ step) × (place ≤ p.place)) (sym stands) (refl, omega arith) in
            subst P (sym one) (here, later)
      ]

  items_differ : (place : ℕ) (es : List Effect) → AllDiffer (items_in j step place es)
  items_differ place [] = tt
  items_differ place (e ∷ es) =
      let at : ItemAt = record { step = step; place = place } in
      let rest : List Item = items_in j step (place + 1) es in
      let P : List Item → Type 0 = λ here. AllDiffer (here ++ rest) in
      elim (brought_for (is_item_of j e) at e) [
        | no_item none ↦ subst P (sym none) (items_differ (place + 1) es)
        | one_item x stands one ↦
            let off : (y : Item) → StandsFrom step (place + 1) y
            → same_position at y.pos ≡ false = λ y h. grind (arith, nat_tests) in
            let apart : AllByRecursion (Differs x) rest =
            all-impl (StandsFrom step (place + 1)) (Differs x) (λ y h. rw stands (off y h)) rest
            (items_stand (place + 1) es) in
            subst P (sym one) (apart, items_differ (place + 1) es)
      ]

-- a head leaves a part of a queue
module _ (mine : Bool) (head : Head) where
  left_all : (P : Item → Type 0) (xs : List Item) → AllByRecursion P xs
      → AllByRecursion P (left_by mine head xs)
  left_all P xs all = elim mine as
      (λ b. AllByRecursion P (left_by b head xs)) [ true ↦ all-filter P _ xs all | false ↦ all ]

  left_differ : (xs : List Item) → AllDiffer xs → AllDiffer (left_by mine head xs)
  left_differ xs all = elim mine as
      (λ b. AllDiffer (left_by b head xs)) [ true ↦ differ-filter _ xs all | false ↦ all ]

-- an opening leaves a part of a queue, which is none of it
module _ (opens : Bool) where
  started_all : (P : Item → Type 0) (xs : List Item) → AllByRecursion P xs
      → AllByRecursion P (cond opens [] xs)
  started_all P xs all = elim opens as (λ b. AllByRecursion P (cond b [] xs)) [
    | true ↦ tt
    | false ↦ all
  ]

  started_differ : (xs : List Item) → AllDiffer xs → AllDiffer (cond opens [] xs)
  started_differ xs all = elim opens as (λ b. AllDiffer (cond b [] xs)) [
    | true ↦ tt
    | false ↦ all
  ]

-- a queue's items stand in the steps so far, and no two at one position
module _ (j : Inc) where
  pub queued_stand : (P : List Step) → AllByRecursion (StandsWithin (length P)) (queued P j)
  queued_stand [] = tt
  queued_stand (s ∷ P) =
      let k : ℕ = suc (length P) in
      let mine : Bool = is_endpoint j (endpoint_by P s.by) in
      let opens_it : Bool = list_any (opens j) s.effects in
      let before : List Item = cond opens_it [] (queued P j) in
      let new : List Item = items_in j k 1 s.effects in
      let old : AllByRecursion (StandsWithin k) (queued P j) =
      all-impl (StandsWithin (length P)) (StandsWithin k) (λ x h. omega arith) (queued P j)
      (queued_stand P) in
      all-append (StandsWithin k) (left_by mine s.head before) new
      (left_all mine s.head (StandsWithin k) before
      (started_all opens_it (StandsWithin k) (queued P j) old))
      (all-impl (StandsFrom k 1) (StandsWithin k) (λ x h. omega arith) new
      (items_stand j k 1 s.effects))

  pub queued_differ : (P : List Step) → AllDiffer (queued P j)
  queued_differ [] = tt
  queued_differ (s ∷ P) =
      let k : ℕ = suc (length P) in
      let mine : Bool = is_endpoint j (endpoint_by P s.by) in
      let opens_it : Bool = list_any (opens j) s.effects in
      let before : List Item = cond opens_it [] (queued P j) in
      let new : List Item = items_in j k 1 s.effects in
      let apart : (x : Item) → StandsWithin (length P) x → AllByRecursion (Differs x) new = λ x old.
      all-impl (StandsFrom k 1) (Differs x) (λ y h. grind (arith, nat_tests)) new
      (items_stand j k 1 s.effects) in
      let across : AllByRecursion (λ x. AllByRecursion (Differs x) new) (queued P j) =
      all-impl (StandsWithin (length P)) (λ x. AllByRecursion (Differs x) new) apart (queued P j)
      (queued_stand P) in
      differ-append (left_by mine s.head before) new
      (left_differ mine s.head before (started_differ opens_it (queued P j) (queued_differ P)))
      (items_differ j k 1 s.effects)
      (left_all mine s.head (λ x. AllByRecursion (Differs x) new) before
      (started_all opens_it (λ x. AllByRecursion (Differs x) new) (queued P j) across))

-- a take of the first selected item leaves the items but that one
pub left-take : (P : List Step) (j : Inc) (selection : Sigsel) (e : Item)
    → first_selected selection (queued P j) ≡ Some e
    → left_by true (Take selection e.pos) (queued P j) ≡ without_first selection (queued P j)
left-take P j selection e is =
    without_first_position (is_selected selection) (queued P j) e (queued_differ j P) is
