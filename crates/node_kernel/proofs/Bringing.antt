-- What effects bring to endpoints, one after another, and taken back.
use Rattle.std.proofs.Common.{◌≡◌, ℕ, ◌+◌, ◌-◌, ◌<◌, Bool, true, false, cond, List, [], ◌∷◌, ◌++◌}
use Rattle.std.proofs.Common.{length, map, take, get_or, refl, ap, sym, ◌∙◌, arith, Some, None}
use Rattle.std.proofs.Common.{append-nil, append_assoc, take_at, length-append, length-take-le}
use Rattle.std.specs.List.{AllByRecursion}
use Rattle.std.proofs.lemmas.Bool.Decides.{nat_tests}
use Rattle.std.proofs.lemmas.List.{take_more}
use Rattle.linx_base.specs.Peers.{same_inc}
use Rattle.linx_base.specs.declared.identity.Inc.{Inc}
use Rattle.linx_base.specs.declared.identity.ItemAt.{ItemAt}
use Rattle.linx_base.specs.declared.item.Item.{Item}
use Rattle.journal.specs.declared.effect.Effect.{Effect}
use Rattle.journal.specs.declared.effect.Effect.TheVariants.{Arrived, Found}
use Rattle.journal.specs.declared.effect.Effect.TheVariants.{Notified}
use Rattle.journal.specs.Queues.{is_item_of, items_from, items_in}
use Rattle.journal.proofs.Lists.{all-impl}
use Rattle.node_kernel.specs.declared.delivery.Delivery.{Delivery}
use Rattle.node_kernel.specs.Nodes.{OpenEndpoint, is_open, items_at, put_all, put_into, with_items}
use Rattle.node_kernel.specs.Kept.{AreRising, bring_into, change_items, delivery_at, put_item}
use Rattle.node_kernel.specs.Kept.{receiver_of, without_last}

module _ {X : Type 0} where
  -- a list of which each element stays
  pub map_same : (f : X → X) → ((x : X) → f x ≡ x) → (xs : List X) → map f xs ≡ xs
  map_same f same [] = refl
  map_same f same (x ∷ xs) = rw (same x) (ap (λ l. x ∷ l) (map_same f same xs))

  pub map_alike : {Y : Type 0} (f g : X → Y) → ((x : X) → f x ≡ g x) → (xs : List X)
      → map f xs ≡ map g xs
  map_alike f g same [] = refl
  map_alike f g same (x ∷ xs) = rw (same x) (ap (λ l. g x ∷ l) (map_alike f g same xs))

  -- two changes, one after another
  pub map_both : {Y Z : Type 0} (f : Y → Z) (g : X → Y) (h : X → Z) → ((x : X) → f (g x) ≡ h x)
      → (xs : List X) → map f (map g xs) ≡ map h xs
  map_both f g h same [] = refl
  map_both f g h same (x ∷ xs) = rw (same x) (ap (λ l. h x ∷ l) (map_both f g h same xs))

  -- and one that takes the other back
  pub map_back : (f g : X → X) → ((x : X) → f (g x) ≡ x) → (xs : List X) → map f (map g xs) ≡ xs
  map_back f g same [] = refl
  map_back f g same (x ∷ xs) = rw (same x) (ap (λ l. x ∷ l) (map_back f g same xs))

-- an endpoint with an equal queue
pub same_queue : (e : OpenEndpoint) (items : List Item) → items ≡ e.items
    → record e { items = items } ≡ e
same_queue e items same = ap (λ (l : List Item). record e { items = l }) same

-- ANOTHER QUEUE at one incarnation
unmatched : (i : Inc) (f : List Item → List Item) (es : List OpenEndpoint)
    → AllByRecursion (λ e. i.0 < e.inc.0) es → map (change_items i f) es ≡ es
unmatched i f [] all = refl
unmatched i f (e ∷ es) all =
    let above : i.0 < e.inc.0 = all.0 in
    let other : same_inc i e.inc ≡ false = grind (arith, nat_tests) in
    rw other (ap (λ l. e ∷ l) (unmatched i f es all.1))

same_number : (i j : Inc) → same_inc i j ≡ true → i.0 ≡ j.0
same_number i j same = grind (arith, nat_tests)

pub changed : (es : List OpenEndpoint) (i : Inc) (f : List Item → List Item) → AreRising es
    → with_items es i (f (items_at es i)) ≡ map (change_items i f) es
changed [] i f rising = refl
changed (e ∷ es) i f rising =
    let go : (b : Bool) → same_inc i e.inc ≡ b → with_items (e ∷ es) i (f (items_at (e ∷ es) i))
    ≡ map (change_items i f) (e ∷ es) = λ b.
    elim b as (λ c. same_inc i e.inc ≡ c → with_items (e ∷ es) i (f (items_at (e ∷ es) i))
    ≡ map (change_items i f) (e ∷ es)) [
      | true ↦ λ here.
          let same : i.0 ≡ e.inc.0 = same_number i e.inc here in
          let above : AllByRecursion (λ g. i.0 < g.inc.0) es =
          all-impl (λ g. e.inc.0 < g.inc.0) (λ g. i.0 < g.inc.0)
          (λ g (less : e.inc.0 < g.inc.0). omega arith) es rising.0 in
          rw here (ap (λ l. record e { items = f e.items } ∷ l) (sym (unmatched i f es above)))
      | false ↦ λ elsewhere. rw elsewhere (ap (λ l. e ∷ l) (changed es i f rising.1))
    ]
    in
    go (same_inc i e.inc) refl

-- ONE MORE ITEM at one incarnation
put_is_change : (i : Inc) (item : Item) (e : OpenEndpoint)
    → change_items i (λ items. items ++ item ∷ []) e ≡ put_item i item e
put_is_change i item e =
    elim (same_inc i e.inc) as (λ b. cond b (record e { items = e.items ++ item ∷ [] }) e
    ≡ record e { items = e.items ++ cond b (item ∷ []) [] }) [
      | true ↦ refl
      | false ↦ sym (same_queue e (e.items ++ []) (append-nil e.items))
    ]

pub put_changed : (es : List OpenEndpoint) (i : Inc) (item : Item) → AreRising es
    → with_items es i (items_at es i ++ item ∷ []) ≡ map (put_item i item) es
put_changed es i item rising =
    changed es i (λ items. items ++ item ∷ []) rising
    ∙ map_alike (change_items i (λ items. items ++ item ∷ [])) (put_item i item)
    (put_is_change i item) es

-- nothing is put where it isn't open
pub put_nowhere : (es : List OpenEndpoint) (i : Inc) (item : Item) → is_open es i ≡ false
    → map (put_item i item) es ≡ es
put_nowhere [] i item shut = refl
put_nowhere (e ∷ es) i item shut =
    let go : (b : Bool) → same_inc i e.inc ≡ b → map (put_item i item) (e ∷ es) ≡ e ∷ es = λ b.
    elim b as (λ c. same_inc i e.inc ≡ c → map (put_item i item) (e ∷ es) ≡ e ∷ es) [
      | true ↦ λ here. let no : true ≡ false = rw here at shut in cc
      | false ↦ λ elsewhere.
          let rest : is_open es i ≡ false = rw elsewhere at shut in
          rw elsewhere (rw (same_queue e (e.items ++ []) (append-nil e.items))
          (ap (λ l. e ∷ l) (put_nowhere es i item rest)))
    ]
    in
    go (same_inc i e.inc) refl

-- what an effect delivers is what it brings
pub delivered : (at : ItemAt) (effect : Effect) (d : Delivery) → delivery_at at effect ≡ Some d
    → (e : OpenEndpoint) → put_item d.to d.item e ≡ bring_into at effect e
delivered at (Arrived i from note) d is e = let same : record { to = i; item = _ } ≡ d = cc in
    rw (← same) refl
delivered at (Found i from note hunt) d is e = let same : record { to = i; item = _ } ≡ d = cc in
    rw (← same) refl
delivered at (Notified i from note reference reason) d is e = let same : record { to = i; item = _ }
    ≡ d = cc in rw (← same) refl
delivered at _ d is e = cc

pub brought : (at : ItemAt) (effect : Effect) (d : Delivery) → delivery_at at effect ≡ Some d
    → (es : List OpenEndpoint) → map (put_item d.to d.item) es ≡ map (bring_into at effect) es
brought at effect d is es = map_alike (put_item d.to d.item) (bring_into at effect)
    (delivered at effect d is) es

undelivered : (at : ItemAt) (effect : Effect) → delivery_at at effect ≡ None → (e : OpenEndpoint)
    → bring_into at effect e ≡ e
undelivered at (Arrived i from note) is e = cc
undelivered at (Found i from note hunt) is e = cc
undelivered at (Notified i from note reference reason) is e = cc
undelivered at _ is e = same_queue e (e.items ++ []) (append-nil e.items)

pub brings_nothing : (at : ItemAt) (effect : Effect) → delivery_at at effect ≡ None
    → (es : List OpenEndpoint) → map (bring_into at effect) es ≡ es
brings_nothing at effect is es = map_same (bring_into at effect) (undelivered at effect is) es

-- TAKEN BACK
last_off : (items : List Item) (item : Item) → without_last (items ++ item ∷ []) ≡ items
last_off items item =
    let n : length (items ++ item ∷ []) - 1 ≡ length items =
    omega (arith, length-append items (item ∷ [])) in
    rw n (take_at items (item ∷ []) (length items) refl)

put_back : (i : Inc) (item : Item) (e : OpenEndpoint)
    → change_items i without_last (put_item i item e) ≡ e
put_back i item e =
    elim (same_inc i e.inc) as (λ b. cond b (record e
    { items = without_last (e.items ++ cond b (item ∷ []) []) })
    (record e { items = e.items ++ cond b (item ∷ []) [] }) ≡ e) [
      | true ↦ same_queue e (without_last (e.items ++ item ∷ [])) (last_off e.items item)
      | false ↦ same_queue e (e.items ++ []) (append-nil e.items)
    ]

taken_back_of : (at : ItemAt) (effect : Effect) (to : Inc) → receiver_of effect ≡ Some to
    → (e : OpenEndpoint) → change_items to without_last (bring_into at effect e) ≡ e
taken_back_of at (Arrived i from note) to is e = let same : i ≡ to = cc in
    rw (← same) (put_back i _ e)
taken_back_of at (Found i from note hunt) to is e = let same : i ≡ to = cc in
    rw (← same) (put_back i _ e)
taken_back_of at (Notified i from note reference reason) to is e = let same : i ≡ to = cc in
    rw (← same) (put_back i _ e)
taken_back_of at _ to is e = cc

pub taken_back : (at : ItemAt) (effect : Effect) (to : Inc) → receiver_of effect ≡ Some to
    → (es : List OpenEndpoint) → map (change_items to without_last) (map (bring_into at effect) es)
    ≡ es
taken_back at effect to is es = map_back (change_items to without_last) (bring_into at effect)
    (taken_back_of at effect to is) es

no_receiver : (at : ItemAt) (effect : Effect) → receiver_of effect ≡ None
    → delivery_at at effect ≡ None
no_receiver at (Arrived i from note) is = cc
no_receiver at (Found i from note hunt) is = cc
no_receiver at (Notified i from note reference reason) is = cc
no_receiver at _ is = refl

pub none_taken_back : (at : ItemAt) (effect : Effect) → receiver_of effect ≡ None
    → (es : List OpenEndpoint) → map (bring_into at effect) es ≡ es
none_taken_back at effect is es = brings_nothing at effect (no_receiver at effect is) es

-- THE EFFECTS OF A STEP, one after another
items_in-append : (j : Inc) (step place : ℕ) (xs ys : List Effect)
    → items_in j step place (xs ++ ys) ≡ items_in j step place xs
    ++ items_in j step (place + length xs) ys
items_in-append j step place [] ys = ap (λ n. items_in j step n ys) (omega arith)
items_in-append j step place (x ∷ xs) ys =
    let here : List Item = cond (is_item_of j x)
    (items_from (record { step = step; place = place }) x) [] in
    let n : place + 1 + length xs ≡ place + length (x ∷ xs) = omega arith in
    ap (λ l. here ++ l) (items_in-append j step (place + 1) xs ys
    ∙ ap (λ m. items_in j step (place + 1) xs ++ items_in j step m ys) n)
    ∙ sym (append_assoc here (items_in j step (place + 1) xs)
    (items_in j step (place + length (x ∷ xs)) ys))

put_last : (step k : ℕ) (effects : List Effect) (effect : Effect) → length effects ≡ k
    → (e : OpenEndpoint) → bring_into (record { step = step; place = k + 1 }) effect
    (put_into step effects e) ≡ put_into step (effects ++ effect ∷ []) e
put_last step k effects effect is e =
    let now : List Item = cond (is_item_of e.inc effect)
    (items_from (record { step = step; place = k + 1 }) effect) [] in
    let n : 1 + length effects ≡ k + 1 = omega arith in
    let last : items_in e.inc step 1 (effects ++ effect ∷ []) ≡ items_in e.inc step 1 effects
    ++ now =
    items_in-append e.inc step 1 effects (effect ∷ [])
    ∙ ap (λ m. items_in e.inc step 1 effects ++ items_in e.inc step m (effect ∷ [])) n
    ∙ ap (λ l. items_in e.inc step 1 effects ++ l) (append-nil now) in
    ap (λ (l : List Item). record e { items = l })
    (append_assoc e.items (items_in e.inc step 1 effects) now
    ∙ ap (λ l. e.items ++ l) (sym last))

pub put_more : (step k : ℕ) (effects : List Effect) (d : Effect) → k < length effects
    → (es : List OpenEndpoint) → map (bring_into (record { step = step; place = k + 1 })
    (get_or effects k d)) (put_all step (take k effects) es)
    ≡ put_all step (take (k + 1) effects) es
put_more step k effects d inside es =
    let n : length (take k effects) ≡ k = length-take-le k effects (omega arith) in
    map_both (bring_into (record { step = step; place = k + 1 }) (get_or effects k d))
    (put_into step (take k effects)) (put_into step (take k effects ++ get_or effects k d ∷ []))
    (put_last step k (take k effects) (get_or effects k d) n) es
    ∙ ap (λ l. put_all step l es) (sym (take_more effects k d inside))

pub put_none : (step : ℕ) (es : List OpenEndpoint) → put_all step [] es ≡ es
put_none step es = map_same (put_into step [])
    (λ e. same_queue e (e.items ++ []) (append-nil e.items)) es

one_put : (step : ℕ) (effect : Effect) (e : OpenEndpoint)
    → bring_into (record { step = step; place = 1 }) effect e ≡ put_into step (effect ∷ []) e
one_put step effect e = ap (λ (l : List Item). record e { items = e.items ++ l })
    (sym (append-nil _))

pub put_one : (step : ℕ) (effect : Effect) (d : Delivery)
    → delivery_at (record { step = step; place = 1 }) effect ≡ Some d → (es : List OpenEndpoint)
    → map (put_item d.to d.item) es ≡ put_all step (effect ∷ []) es
put_one step effect d is es =
    brought (record { step = step; place = 1 }) effect d is es
    ∙ map_alike (bring_into (record { step = step; place = 1 }) effect)
    (put_into step (effect ∷ [])) (one_put step effect) es
