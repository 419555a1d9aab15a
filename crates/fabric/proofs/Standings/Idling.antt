-- Whoever waits in vain still does after a step of another maker that doesn't reach its endpoint.
use Rattle.std.proofs.Common.{◌≡◌, ◌≢◌, ℕ, zero, suc, ◌<◌, Bool, true, false, cond, not, List, []}
use Rattle.std.proofs.Common.{◌∷◌, ◌++◌, length, map, filter, replicate, Option, Some, None}
use Rattle.std.proofs.Common.{is_none, drop, get_or, set, take, refl, sym, ◌∙◌, ap, ap₂, subst}
use Rattle.std.proofs.Common.{arith, ◌⊎◌, inl, inr, ◌+◌, ◌||◌, IsSome, slice_get, slice_set, eq-eqb}
use Rattle.std.proofs.Common.{ne_eqb, true≢false, append-nil}
use Rattle.std.specs.List.{list_any}
use Rattle.std.proofs.lemmas.Bool.{or_from, or_parts}
use Rattle.linx_base.specs.Peers.{same_inc}
use Rattle.linx_base.specs.declared.identity.Inc.{Inc}
use Rattle.linx_base.specs.declared.identity.ItemAt.{ItemAt}
use Rattle.linx_base.specs.declared.item.Item.{Item}
use Rattle.sigsel.specs.Selection.{first_selected, is_selected}
use Rattle.sigsel.specs.declared.sigsel.Sigsel.{Sigsel}
use Rattle.journal.specs.declared.by.By.{By}
use Rattle.journal.specs.declared.by.By.TheVariants.{Actor, Pump}
use Rattle.journal.specs.declared.effect.Effect.{Effect}
use Rattle.journal.specs.declared.effect.Effect.TheVariants.{Arrived, Closed, Found}
use Rattle.journal.specs.declared.effect.Effect.TheVariants.{Notified}
use Rattle.journal.specs.declared.effect.Step.{Step}
use Rattle.journal.specs.declared.head.Head.{Head}
use Rattle.journal.specs.declared.head.Head.TheVariants.{Waits}
use Rattle.journal.specs.History.{closes, endpoint_by, endpoint_of, is_by, last_opened, opens}
use Rattle.journal.specs.History.{unless_closed}
use Rattle.journal.specs.Queues.{is_item_of, items_from, items_in, left_by, queued, reached_by}
use Rattle.journal.specs.Queues.{removes, unless_opened}
use Rattle.journal.specs.Rest.{is_idle, queue_of, waits_in, waits_in_vain, waits_with}
use Rattle.journal.specs.Traffic.{is_endpoint}
use Rattle.fabric.specs.Idle.{AreIdle, IsIdleAt, is_reached, noted_past, reaches}
use Rattle.fabric.specs.Idle.{unless_at, unless_reached, without_maker}

-- A QUEUE of which nothing is selected
module _ (f : Sigsel) where
  unselected : (x : Item) (xs : List Item) → first_selected f (x ∷ xs) ≡ None
      → (is_selected f x ≡ false) × (first_selected f xs ≡ None)
  unselected x xs none = go (is_selected f x) none
    where
      go : (b : Bool) → cond b (Some x) (first_selected f xs) ≡ None
          → (b ≡ false) × (first_selected f xs ≡ None)
      go true is = cc
      go false is = (refl, is)

  none-kept : (keeps : Item → Bool) (xs : List Item) → first_selected f xs ≡ None
      → first_selected f (filter keeps xs) ≡ None
  none-kept keeps [] none = refl
  none-kept keeps (x ∷ xs) none =
      go (keeps x) (unselected x xs none).0 (none-kept keeps xs (unselected x xs none).1)
    where
      go : (b : Bool) → is_selected f x ≡ false → first_selected f (filter keeps xs) ≡ None
          → first_selected f (cond b (x ∷ filter keeps xs) (filter keeps xs)) ≡ None
      go true first rest = rw first rest
      go false first rest = rest

  none-left : (mine : Bool) (head : Head) (xs : List Item) → first_selected f xs ≡ None
      → first_selected f (left_by mine head xs) ≡ None
  none-left true head xs none = none-kept (λ x. not (removes head x)) xs none
  none-left false head xs none = none

  none-opened : (opened : Bool) (xs : List Item) → first_selected f xs ≡ None
      → first_selected f (cond opened [] xs) ≡ None
  none-opened true xs none = refl
  none-opened false xs none = none

is-none : {X : Type 0} (o : Option X) → is_none o ≡ true → o ≡ None
is-none None is = refl
is-none (Some x) is = cc

-- EFFECTS that don't reach an endpoint
module _ (j : Inc) where
  closes-not : (e : Effect) → reaches j e ≡ false → closes j e ≡ false
  closes-not (Closed i) apart =
      ne_eqb j.0 i.0 (λ same. true≢false (sym (eq-eqb i.0 j.0 (sym same)) ∙ apart))
  closes-not _ apart = refl

  item-not : (e : Effect) → reaches j e ≡ false → (at : ItemAt)
      → cond (is_item_of j e) (items_from at e) [] ≡ []
  item-not (Arrived i q note) apart at = rw apart refl
  item-not (Found i q note h) apart at = rw apart refl
  item-not (Notified i q note r reason) apart at = rw apart refl
  item-not _ apart at = refl

  closes-none : (es : List Effect) → list_any (reaches j) es ≡ false
      → list_any (closes j) es ≡ false
  closes-none [] apart = refl
  closes-none (e ∷ es) apart =
      let both = or_parts (reaches j e) (list_any (reaches j) es) apart in
      or_from (closes j e) (list_any (closes j) es) (closes-not e both.0) (closes-none es both.1)

  no-items : (step place : ℕ) (es : List Effect) → list_any (reaches j) es ≡ false
      → items_in j step place es ≡ []
  no-items step place [] apart = refl
  no-items step place (e ∷ es) apart =
      let both = or_parts (reaches j e) (list_any (reaches j) es) apart in
      ap (λ (xs : List Item). xs ++ items_in j step (place + 1) es)
      (item-not e both.0 (record { step = step; place = place }))
      ∙ no-items step (place + 1) es both.1

-- A STEP that doesn't reach the endpoint
module _ (P : List Step) (s : Step) (j : Inc) (apart : list_any (reaches j) s.effects ≡ false) where
  vain-stays : (w : Option Sigsel) → waits_in_vain P w (Some j) ≡ true
      → waits_in_vain (s ∷ P) w (Some j) ≡ true
  vain-stays None vain = vain
  vain-stays (Some f) vain =
      let before : List Item = unless_opened j s.effects (queued P j) in
      let left : List Item = left_by (is_endpoint j (endpoint_by P s.by)) s.head before in
      let none : first_selected f before ≡ None =
      none-opened f (list_any (opens j) s.effects) (queued P j)
      (is-none (first_selected f (queued P j)) vain) in
      ap (λ (xs : List Item). is_none (first_selected f (left ++ xs)))
      (no-items j (suc (length P)) 1 s.effects apart)
      ∙ ap (λ (xs : List Item). is_none (first_selected f xs)) (append-nil left)
      ∙ ap (λ (o : Option Item). is_none o)
      (none-left f (is_endpoint j (endpoint_by P s.by)) s.head before none)

-- one of another maker
module _ (P : List Step) (s : Step) (k : ℕ) (j : Inc) (other : is_by s.by k ≡ false)
    (apart : list_any (reaches j) s.effects ≡ false) where
  idle-stays : IsIdleAt P k j → IsIdleAt (s ∷ P) k j
  idle-stays idle =
      let at : endpoint_of (s ∷ P) k ≡ Some j =
      ap (λ (b : Bool). unless_closed s.effects
      (cond b (last_opened (endpoint_of P k) s.effects) (endpoint_of P k))) other
      ∙ ap (unless_closed s.effects) idle.at
      ∙ ap (λ (b : Bool). cond b None (Some j)) (closes-none j s.effects apart) in
      let waits : waits_with (s ∷ P) k ≡ waits_with P k =
      ap (λ (b : Bool). cond b (waits_in s.head) (waits_with P k)) other in
      let vain : waits_in_vain P (waits_with P k) (Some j) ≡ true =
      sym (ap (waits_in_vain P (waits_with P k)) idle.at) ∙ idle.idle in
      record {
        at = at;
        idle =
            ap (waits_in_vain (s ∷ P) (waits_with (s ∷ P) k)) at
            ∙ ap (λ (w : Option Sigsel). waits_in_vain (s ∷ P) w (Some j)) waits
            ∙ vain-stays P s j apart (waits_with P k) vain;
      }

-- one that waits with a filter that selects nothing
pub waits-idle : (P : List Step) (k : ℕ) (f : Sigsel) → IsSome (endpoint_of P k)
    → first_selected f (queue_of P (endpoint_of P k)) ≡ None → (new : List Step)
    → new ≡ record { by = Actor k; head = Waits f; effects = [] } ∷ P → is_idle new k ≡ true
waits-idle P k f owns vain new new_is = go (endpoint_of P k) refl owns vain
  where
    go : (me : Option Inc) → endpoint_of P k ≡ me → IsSome me
        → first_selected f (queue_of P me) ≡ None → is_idle new k ≡ true
    go None at owns none = let never : false ≡ true = owns in cc
    go (Some j) at owns none =
        let s : Step = record { by = Actor k; head = Waits f; effects = [] } in
        let mine : is_by s.by k ≡ true = eq-eqb k k refl in
        let there : endpoint_of (s ∷ P) k ≡ Some j =
        ap (λ (b : Bool). unless_closed [] (cond b (endpoint_of P k) (endpoint_of P k))) mine
        ∙ ap (unless_closed []) at in
        let waits : waits_with (s ∷ P) k ≡ Some f =
        ap (λ (b : Bool). cond b (Some f) (waits_with P k)) mine in
        ap (λ (steps : List Step). is_idle steps k) new_is
        ∙ ap (waits_in_vain (s ∷ P) (waits_with (s ∷ P) k)) there
        ∙ ap (λ (w : Option Sigsel). waits_in_vain (s ∷ P) w (Some j)) waits
        ∙ vain-stays P s j refl (Some f) (ap (λ (o : Option Item). is_none o) none)

-- WHAT IS NOTED
get-unless : (es : List Effect) (noted : List (Option Inc)) (k : ℕ) (j : Inc)
    → slice_get (map (unless_reached es) noted) k ≡ Some (Some j)
    → (slice_get noted k ≡ Some (Some j)) × (list_any (reaches j) es ≡ false)
get-unless es [] k j is = cc
get-unless es (None ∷ rest) zero j is = cc
get-unless es (Some i ∷ rest) zero j is = go (list_any (reaches i) es) refl is
  where
    go : (b : Bool) → list_any (reaches i) es ≡ b
        → (let o : Option (Option Inc) = Some (cond b None (Some i)) in o) ≡ Some (Some j)
        → ((let o : Option (Option Inc) = Some (Some i) in o) ≡ Some (Some j))
        × (list_any (reaches j) es ≡ false)
    go true e found = cc
    go false e found =
        let same : i ≡ j = cc in
        (found, subst (λ (x : Inc). list_any (reaches x) es ≡ false) same e)
get-unless es (o ∷ rest) (suc k) j is = get-unless es rest k j is

get-without : (noted : List (Option Inc)) (a k : ℕ) (j : Inc)
    → slice_get (slice_set noted a None) k ≡ Some (Some j)
    → (slice_get noted k ≡ Some (Some j)) × (a ≢ k)
get-without [] a k j is = cc
get-without (o ∷ rest) zero zero j is = cc
get-without (o ∷ rest) zero (suc k) j is = (is, λ same. omega (arith, same))
get-without (o ∷ rest) (suc a) zero j is = (is, λ same. omega (arith, same))
get-without (o ∷ rest) (suc a) (suc k) j is =
    let later = get-without rest a k j is in (later.0, λ same. later.1 (omega (arith, same)))

get-maker : (by : By) (noted : List (Option Inc)) (k : ℕ) (j : Inc)
    → slice_get (without_maker by noted) k ≡ Some (Some j)
    → (slice_get noted k ≡ Some (Some j)) × (is_by by k ≡ false)
get-maker (Actor a) noted k j is =
    let other = get-without noted a k j is in (other.0, ne_eqb a k other.1)
get-maker (Pump l) noted k j is = (is, refl)

-- past a step
pub idle-past : (P : List Step) (s : Step) (noted : List (Option Inc)) → AreIdle P noted
    → AreIdle (s ∷ P) (noted_past s noted)
idle-past P s noted idle k j is =
    let reached = get-unless s.effects (without_maker s.by noted) k j is in
    let other = get-maker s.by noted k j reached.0 in
    idle-stays P s k j other.1 reached.1 (idle k j other.0)

-- one more is noted
get-noted : (noted : List (Option Inc)) (k m : ℕ) (j i : Inc)
    → slice_get (slice_set noted k (Some j)) m ≡ Some (Some i)
    → ((k ≡ m) × (j ≡ i)) ⊎ (slice_get noted m ≡ Some (Some i))
get-noted [] k m j i is = cc
get-noted (o ∷ rest) zero zero j i is = inl (refl, cc)
get-noted (o ∷ rest) zero (suc m) j i is = inr is
get-noted (o ∷ rest) (suc k) zero j i is = inr is
get-noted (o ∷ rest) (suc k) (suc m) j i is = elim (get-noted rest k m j i is) [
  | inl same ↦ inl (ap suc same.0, same.1)
  | inr before ↦ inr before
]

pub idle_noted : (P : List Step) (noted : List (Option Inc)) → AreIdle P noted → (k : ℕ) (j : Inc)
    → IsIdleAt P k j → AreIdle P (slice_set noted k (Some j))
idle_noted P noted idle k j one m i is = elim (get-noted noted k m j i is) [
  | inl same ↦ subst (λ (n : ℕ). IsIdleAt P n i) same.0
      (subst (λ (x : Inc). IsIdleAt P k x) same.1 one)
  | inr before ↦ idle m i before
]

-- none is noted before the first step
pub idle_none : (n : ℕ) → AreIdle [] (replicate n None)
idle_none n k j is = absurd (never n k is)
  where
    never : (n k : ℕ) → slice_get (replicate n None) k ≡ Some (Some j) → ⊥
    never zero k is = cc
    never (suc n) zero is = cc
    never (suc n) (suc k) is = never n k is

-- one effect reaches one endpoint, or none
module _ (e : Effect) where
  or-false : (b : Bool) → (b || false) ≡ b
  or-false true = refl
  or-false false = refl

  pub forgets_at : (i : Inc) → reached_by e ≡ Some i → (noted : List (Option Inc))
      → map (unless_at i) noted ≡ map (unless_reached (e ∷ [])) noted
  forgets_at i at [] = refl
  forgets_at i at (None ∷ rest) = ap (λ (l : List (Option Inc)). None ∷ l) (forgets_at i at rest)
  forgets_at i at (Some j ∷ rest) =
      let same : same_inc i j ≡ (reaches j e || false) =
      ap (is_reached j) (sym at) ∙ sym (or-false (reaches j e)) in
      ap₂ (λ (b : Bool) (l : List (Option Inc)). cond b None (Some j) ∷ l) same
      (forgets_at i at rest)

  pub forgets_none : reached_by e ≡ None → (noted : List (Option Inc))
      → noted ≡ map (unless_reached (e ∷ [])) noted
  forgets_none none [] = refl
  forgets_none none (None ∷ rest) =
      ap (λ (l : List (Option Inc)). None ∷ l) (forgets_none none rest)
  forgets_none none (Some j ∷ rest) =
      let apart : false ≡ (reaches j e || false) =
      ap (is_reached j) (sym none) ∙ sym (or-false (reaches j e)) in
      ap₂ (λ (b : Bool) (l : List (Option Inc)). cond b None (Some j) ∷ l) apart
      (forgets_none none rest)

-- no effects reach nobody
pub unreached : (noted : List (Option Inc)) → noted ≡ map (unless_reached []) noted
unreached [] = refl
unreached (None ∷ rest) = ap (λ (l : List (Option Inc)). None ∷ l) (unreached rest)
unreached (Some j ∷ rest) = ap (λ (l : List (Option Inc)). Some j ∷ l) (unreached rest)

-- effects, and then one more
any-more : (j : Inc) (es : List Effect) (e : Effect)
    → list_any (reaches j) (es ++ e ∷ []) ≡ (list_any (reaches j) es || (reaches j e || false))
any-more j [] e = refl
any-more j (x ∷ es) e = go (reaches j x) (any-more j es e)
  where
    go : (b : Bool)
        → list_any (reaches j) (es ++ e ∷ []) ≡ (list_any (reaches j) es || (reaches j e || false))
        → (b || list_any (reaches j) (es ++ e ∷ []))
        ≡ ((b || list_any (reaches j) es) || (reaches j e || false))
    go true more = refl
    go false more = more

pub one_more : (es : List Effect) (e : Effect) (noted : List (Option Inc))
    → map (unless_reached (e ∷ [])) (map (unless_reached es) noted)
    ≡ map (unless_reached (es ++ e ∷ [])) noted
one_more es e [] = refl
one_more es e (None ∷ rest) = ap (λ (l : List (Option Inc)). None ∷ l) (one_more es e rest)
one_more es e (Some j ∷ rest) =
    ap₂ (λ (o : Option Inc) (l : List (Option Inc)). o ∷ l)
    (go (list_any (reaches j) es)
    ∙ ap (λ (b : Bool). cond b None (Some j)) (sym (any-more j es e))) (one_more es e rest)
  where
    go : (a : Bool) → unless_reached (e ∷ []) (cond a None (Some j))
        ≡ cond (a || (reaches j e || false)) None (Some j)
    go true = refl
    go false = refl

-- one more of a list is changed
pub map-turned : {X : Type 0} (f : X → X) (xs : List X) (k : ℕ) (x : X) → k < length xs
    → (let ys : List X = map f (take k xs) ++ drop k xs in set ys k (f (get_or ys k x)))
    ≡ map f (take (suc k) xs) ++ drop (suc k) xs
map-turned f [] k x within = absurd (omega arith)
map-turned f (y ∷ xs) zero x within = refl
map-turned f (y ∷ xs) (suc k) x within =
    ap (λ l. f y ∷ l) (map-turned f xs k x (omega arith))
