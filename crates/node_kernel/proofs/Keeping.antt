-- What a roster keeps, after each change.
use Rattle.std.proofs.Common.{◌≡◌, ℕ, ◌+◌, ◌<◌, Bool, true, false, cond, List, [], ◌∷◌, ◌++◌, map}
use Rattle.std.proofs.Common.{refl, ap, ap₂, sym, subst, ◌∙◌, arith, drop, is_ok, length}
use Rattle.std.proofs.Common.{length-append, option_to_list, true≢false, Option, Some, Result, Ok}
use Rattle.std.proofs.Common.{Err, OnOk, OnErr, IfOk, IfErr, is_err, option_map, bytes_eq}
use Rattle.std.specs.List.{AllByRecursion}
use Rattle.std.proofs.lemmas.List.{map_push}
use Rattle.std.proofs.lemmas.Bool.Decides.{nat_tests}
use Rattle.linx_base.specs.FirstMatch.{first_match, without_match}
use Rattle.linx_base.specs.Peers.{same_inc}
use Rattle.linx_base.specs.declared.identity.Inc.{Inc}
use Rattle.linx_base.specs.declared.identity.NodeNo.{NodeNo}
use Rattle.linx_base.specs.declared.item.Item.{Item}
use Rattle.journal.specs.declared.effect.Effect.{Effect}
use Rattle.journal.specs.History.{next_inc}
use Rattle.journal.proofs.Lists.{all-append, all-impl}
use Rattle.name_table.specs.declared.named.NamedEndpoint.{NamedEndpoint}
use Rattle.name_table.specs.Naming.{has_name, is_endpoint}
use Rattle.node_kernel.specs.Nodes.{OpenEndpoint, first_named, inc_if, is_at, is_named, put_all}
use Rattle.node_kernel.specs.Nodes.{put_into, with_items, without_endpoint}
use Rattle.node_kernel.specs.Kept.{AreKept, AreRising, change_items, name_entry, put_item}
use Rattle.node_kernel.proofs.Bringing.{map_both}
use Rattle.node_kernel.proofs.Rising.{all_without}

-- THE SAME ENDPOINTS, with other queues
pub same_endpoints : (f : OpenEndpoint → OpenEndpoint)
    → ((e : OpenEndpoint) → name_entry (f e) ≡ name_entry e) → (es : List OpenEndpoint)
    → map name_entry (map f es) ≡ map name_entry es
same_endpoints f same es = map_both name_entry f name_entry same es

named_changed : (i : Inc) (f : List Item → List Item) (e : OpenEndpoint)
    → name_entry (change_items i f e) ≡ name_entry e
named_changed i f e =
    elim (same_inc i e.inc) as
    (λ b. name_entry (cond b (record e { items = f e.items }) e) ≡ name_entry e)
    [ true ↦ refl | false ↦ refl ]

pub same_put_all : (step : ℕ) (effects : List Effect) (es : List OpenEndpoint)
    → map name_entry (put_all step effects es) ≡ map name_entry es
same_put_all step effects es = same_endpoints (put_into step effects) (λ e. refl) es

pub same_put : (i : Inc) (item : Item) (es : List OpenEndpoint)
    → map name_entry (map (put_item i item) es) ≡ map name_entry es
same_put i item es = same_endpoints (put_item i item) (λ e. refl) es

pub same_changed : (i : Inc) (f : List Item → List Item) (es : List OpenEndpoint)
    → map name_entry (map (change_items i f) es) ≡ map name_entry es
same_changed i f es = same_endpoints (change_items i f) (named_changed i f) es

pub same_with_items : (es : List OpenEndpoint) (i : Inc) (items : List Item)
    → map name_entry (with_items es i items) ≡ map name_entry es
same_with_items [] i items = refl
same_with_items (e ∷ es) i items =
    elim (is_at i e) as (λ b. map name_entry (cond b (record e { items = items } ∷ es) (e
    ∷ with_items es i items)) ≡ map name_entry (e ∷ es)) [
      | true ↦ refl
      | false ↦ ap (λ l. name_entry e ∷ l) (same_with_items es i items)
    ]

all_alike : (P : NamedEndpoint → Type 0) (xs ys : List OpenEndpoint)
    → map name_entry xs ≡ map name_entry ys
    → AllByRecursion (λ e. P (name_entry e)) ys → AllByRecursion (λ e. P (name_entry e)) xs
all_alike P [] ys is all = tt
all_alike P (x ∷ xs) [] is all = cc
all_alike P (x ∷ xs) (y ∷ ys) is all =
    let head : name_entry y ≡ name_entry x = cc in
    let tail : map name_entry xs ≡ map name_entry ys = cc in
    (subst P head all.0, all_alike P xs ys tail all.1)

pub rising_alike : (xs ys : List OpenEndpoint) → map name_entry xs ≡ map name_entry ys
    → AreRising ys → AreRising xs
rising_alike [] ys is rising = tt
rising_alike (x ∷ xs) [] is rising = cc
rising_alike (x ∷ xs) (y ∷ ys) is rising =
    let head : name_entry y ≡ name_entry x = cc in
    let tail : map name_entry xs ≡ map name_entry ys = cc in
    let number : y.inc.0 ≡ x.inc.0 = ap (λ (n : NamedEndpoint). n.inc.0) head in
    let above : AllByRecursion (λ e. y.inc.0 < (name_entry e).inc.0) xs =
    all_alike (λ n. y.inc.0 < n.inc.0) xs ys tail rising.0 in (
      subst (λ k. AllByRecursion (λ (e : OpenEndpoint). k < e.inc.0) xs) number above,
      rising_alike xs ys tail rising.1,
    )

pub kept_alike_of : {node : NodeNo} {openings : ℕ} {es : List OpenEndpoint}
    {names : List NamedEndpoint} → AreKept node openings es names → (xs : List OpenEndpoint)
    → map name_entry xs ≡ map name_entry es → AreKept node openings xs names
kept_alike_of {node = node} {openings = openings} {es = es} kept xs is = record {
  rising = rising_alike xs es is kept.rising;
  below = all_alike (λ n. n.inc.0 < (next_inc node.0 openings).0) xs es is kept.below;
  named = kept.named ∙ sym is;
}

module _ (node : NodeNo) (openings : ℕ) (es : List OpenEndpoint) (names : List NamedEndpoint)
    (kept : AreKept node openings es names) where
  -- ONE LESS
  rising_without : (i : Inc) (xs : List OpenEndpoint) → AreRising xs
      → AreRising (without_endpoint xs i)
  rising_without i [] rising = tt
  rising_without i (x ∷ xs) rising =
      elim (is_at i x) as (λ b. AreRising (cond b xs (x ∷ without_endpoint xs i))) [
        | true ↦ rising.1
        | false ↦ (
          all_without (λ f. x.inc.0 < f.inc.0) (is_at i) xs rising.0,
          rising_without i xs rising.1,
        )
      ]

  without_named : (i : Inc) (xs : List OpenEndpoint)
      → without_match (is_endpoint i) (map name_entry xs) ≡ map name_entry (without_endpoint xs i)
  without_named i [] = refl
  without_named i (x ∷ xs) =
      elim (same_inc i x.inc) as (λ b. cond b (map name_entry xs) (name_entry x
      ∷ without_match (is_endpoint i) (map name_entry xs))
      ≡ map name_entry (cond b xs (x ∷ without_endpoint xs i))) [
        | true ↦ refl
        | false ↦ ap (λ l. name_entry x ∷ l) (without_named i xs)
      ]

  pub kept_without : (i : Inc) → AreKept node openings (without_endpoint es i)
      (without_match (is_endpoint i) names)
  kept_without i = record {
    rising = rising_without i es kept.rising;
    below = all_without (λ e. e.inc.0 < (next_inc node.0 openings).0) (is_at i) es kept.below;
    named = ap (without_match (is_endpoint i)) kept.named ∙ without_named i es;
  }

  -- ONE MORE
  rising_more : (e : OpenEndpoint) (xs : List OpenEndpoint) → AreRising xs
      → AllByRecursion (λ f. f.inc.0 < e.inc.0) xs → AreRising (xs ++ e ∷ [])
  rising_more e [] rising below = (tt, tt)
  rising_more e (x ∷ xs) rising below = (
    all-append (λ f. x.inc.0 < f.inc.0) xs (e ∷ []) rising.0 (below.0, tt),
    rising_more e xs rising.1 below.1,
  )

  abbrev new_one : List ℕ → OpenEndpoint
  new_one name = record { inc = next_inc node.0 openings; name = name; items = [] }

  pub rising_opened : (name : List ℕ) → AreRising (es ++ new_one name ∷ [])
  rising_opened name = rising_more (new_one name) es kept.rising kept.below

  pub kept_opened : (name : List ℕ) → AreKept node (openings + 1) (es ++ new_one name ∷ []) (names
      ++ record { name = name; inc = next_inc node.0 openings } ∷ [])
  kept_opened name = record {
    rising = rising_opened name;
    below = all-append (λ e. e.inc.0 < (next_inc node.0 (openings + 1)).0) es (new_one name ∷ [])
        (all-impl (λ e. e.inc.0 < (next_inc node.0 openings).0) (λ e. e.inc.0
        < (next_inc node.0 (openings + 1)).0) (λ e (less : e.inc.0
        < (next_inc node.0 openings).0). omega arith) es kept.below)
        (omega arith, tt);
    named = ap (λ l. l ++ record { name = name; inc = next_inc node.0 openings } ∷ []) kept.named
        ∙ sym (map_push name_entry es (new_one name));
  }

  -- and its name taken out again
  none_named : (i : Inc) (xs : List OpenEndpoint) → AllByRecursion (λ e. e.inc.0 < i.0) xs
      → (name : List ℕ) → without_match (is_endpoint i) (map name_entry xs
      ++ record { name = name; inc = i } ∷ []) ≡ map name_entry xs
  none_named i [] below name = rw (itself i) refl
    where
      itself : (j : Inc) → same_inc j j ≡ true
      itself j = grind (arith, nat_tests)
  none_named i (x ∷ xs) below name =
      let less : x.inc.0 < i.0 = below.0 in
      let other : same_inc i x.inc ≡ false = grind (arith, nat_tests) in
      rw other (ap (λ l. name_entry x ∷ l) (none_named i xs below.1 name))

  pub name_out : (name : List ℕ) → without_match (is_endpoint (next_inc node.0 openings)) (names
      ++ record { name = name; inc = next_inc node.0 openings } ∷ []) ≡ names
  name_out name =
      ap (λ l. without_match (is_endpoint (next_inc node.0 openings)) (l
      ++ record { name = name; inc = next_inc node.0 openings } ∷ [])) kept.named
      ∙ none_named (next_inc node.0 openings) es kept.below name ∙ sym kept.named

  -- THE FIRST OF A NAME
  first_of : (name : List ℕ) (xs : List OpenEndpoint)
      → option_map (λ (e : NamedEndpoint). e.inc) (first_match (has_name name) (map name_entry xs))
      ≡ first_named xs name
  first_of name [] = refl
  first_of name (x ∷ xs) =
      elim (bytes_eq name x.name) as (λ b. option_map (λ (e : NamedEndpoint). e.inc)
      (cond b (Some (name_entry x)) (first_match (has_name name) (map name_entry xs)))
      ≡ inc_if (cond b (Some x) (first_match (is_named name) xs))) [
        | true ↦ refl
        | false ↦ first_of name xs
      ]

  pub first_found : (name : List ℕ) → option_map (λ (e : NamedEndpoint). e.inc)
      (first_match (has_name name) names) ≡ first_named es name
  first_found name = ap (λ l. option_map (λ (e : NamedEndpoint). e.inc)
      (first_match (has_name name) l)) kept.named ∙ first_of name es

  -- THE SAME by what came out
  pub opened_kept : (name copy : List ℕ) (inc : Inc) (new : OpenEndpoint) (step : ℕ)
      (effects : List Effect) (items : List OpenEndpoint) (after : List NamedEndpoint)
      → inc ≡ next_inc node.0 openings → copy ≡ name
      → new ≡ record { inc = inc; name = name; items = [] }
      → items ≡ put_all step effects (es ++ new ∷ [])
      → after ≡ names ++ record { name = copy; inc = inc } ∷ []
      → AreKept node (openings + 1) items after
  opened_kept name copy inc new step effects items after inc_is copy_is new_is items_is after_is =
      rw (items_is, after_is, new_is, copy_is, inc_is) (all_put name step effects)
    where
      all_put : (name : List ℕ) (step : ℕ) (effects : List Effect)
          → AreKept node (openings + 1) (put_all step effects (es ++ new_one name ∷ [])) (names
          ++ record { name = name; inc = next_inc node.0 openings } ∷ [])
      all_put name step effects = kept_alike_of (kept_opened name)
          (put_all step effects (es ++ new_one name ∷ []))
          (same_put_all step effects (es ++ new_one name ∷ []))

  pub refused_kept : (copy : List ℕ) (inc : Inc) (items : List OpenEndpoint)
      (after left : List NamedEndpoint) → inc ≡ next_inc node.0 openings → items ≡ es
      → after ≡ names ++ record { name = copy; inc = inc } ∷ []
      → left ≡ without_match (is_endpoint inc) after → AreKept node openings items left
  refused_kept copy inc items after left inc_is items_is after_is left_is =
      rw (left_is, after_is, items_is, inc_is) (rw (name_out copy) kept)

-- what an answer without an error says
pub ok_of : {A B : Type 0} {P : Type 0} (r : Result A B) → is_err r ≡ false → OnOk r P → P
ok_of (Ok a) none said = said
ok_of (Err b) none said = cc

pub always_ok : {A B : Type 0} {P : Type 0} (r : Result A B) → P → OnOk r P
always_ok (Ok a) said = said
always_ok (Err b) said = tt

pub on_ok : {A B : Type 0} {P Q : Type 0} (r : Result A B) → OnOk r P → (P → Q) → OnOk r Q
on_ok (Ok a) said f = f said
on_ok (Err b) said f = tt

pub if_ok : {A B : Type 0} {P Q : A → Type 0} (r : Result A B) → IfOk r P → ((a : A) → P a → Q a)
    → IfOk r Q
if_ok (Ok a) said f = f a said
if_ok (Err b) said f = tt

pub same_delivered : (i : Inc) (item : Item) (old new : List OpenEndpoint) (r : Result Bool Item)
    → OnOk r (new ≡ map (put_item i item) old) → IfErr r (λ back. (back ≡ item) × (new ≡ old))
    → map name_entry new ≡ map name_entry old
same_delivered i item old new (Ok found) put back = ap (map name_entry) put ∙ same_put i item old
same_delivered i item old new (Err other) put back = ap (map name_entry) back.1

pub same_brought : {A B : Type 0} (step : ℕ) (effects : List Effect) (old new : List OpenEndpoint)
    (r : Result A B) → OnOk r (new ≡ put_all step effects old) → OnErr r (new ≡ old)
    → map name_entry new ≡ map name_entry old
same_brought step effects old new (Ok a) put back = ap (map name_entry) put
    ∙ same_put_all step effects old
same_brought step effects old new (Err b) put back = ap (map name_entry) back

-- THE LAST ONE TAKEN BACK OUT
module _ {X : Type 0} (last got : X) where
  same_last : (front left : List X) → front ++ last ∷ [] ≡ left ++ got ∷ []
      → (got ≡ last) × (left ≡ front)
  same_last [] [] is = (let same : got ≡ last = cc in same, refl)
  same_last [] (x ∷ left) is =
      let longer : 1 ≡ length (x ∷ (left ++ got ∷ [])) = ap length is in
      absurd (omega (arith, length-append left (got ∷ [])))
  same_last (x ∷ front) [] is =
      let longer : length (x ∷ (front ++ last ∷ [])) ≡ 1 = ap length is in
      absurd (omega (arith, length-append front (last ∷ [])))
  same_last (x ∷ front) (y ∷ left) is =
      let whole : x ∷ (front ++ last ∷ []) ≡ y ∷ (left ++ got ∷ []) = is in
      let rest = same_last front left (ap (drop 1) whole) in
      let head : x ≡ y = cc in
      (rest.0, ap₂ (λ z l. z ∷ l) (sym head) rest.1)

  pub taken_back : (front whole left : List X) (taken : Option X) → whole ≡ front ++ last ∷ []
      → whole ≡ left ++ option_to_list taken → taken ≡ Some got → (got ≡ last) × (left ≡ front)
  taken_back front whole left taken is was found =
      same_last front left (sym is ∙ was ∙ ap (λ o. left ++ option_to_list o) found)

pub err_of : {A B : Type 0} {P : Type 0} (r : Result A B) → is_ok r ≡ false → OnErr r P → P
err_of (Ok a) some said = absurd (true≢false some)
err_of (Err b) some said = said
