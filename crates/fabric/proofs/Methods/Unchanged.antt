-- What a look in vain and a refusal of memory leave: all as it was.
use Rattle.std.proofs.Common.{◌≡◌, ℕ, zero, suc, ◌<◌, Bool, true, false, cond, List, [], ◌∷◌}
use Rattle.std.proofs.Common.{length, Option, Some, None, get_or, refl, sym, ◌∙◌, ap, subst, arith}
use Rattle.std.proofs.Common.{slice_set}
use Rattle.linx_base.specs.FirstMatch.{first_match}
use Rattle.linx_base.specs.declared.identity.Inc.{Inc}
use Rattle.linx_base.specs.declared.item.Item.{Item}
use Rattle.sigsel.specs.Selection.{first_selected, is_selected, without_first}
use Rattle.sigsel.specs.declared.sigsel.Sigsel.{Sigsel}
use Rattle.journal.specs.declared.by.By.{By}
use Rattle.journal.specs.History.{endpoint_of}
use Rattle.journal.specs.Logs.{Log}
use Rattle.journal.specs.Rest.{queue_of}
use Rattle.node_kernel.specs.Nodes.{NodeState, OpenEndpoint, is_at, items_of, with_items, items_at}
use Rattle.fabric.specs.declared.makings.Looked.TheVariants.{Found, Vain}
use Rattle.fabric.specs.Looks.{after_take, looked_at, with_take}
use Rattle.fabric.specs.Remains.{IsKept, Parts}
use Rattle.fabric.specs.Run.{Layout}

-- WHAT CHANGES NOTHING
set-itself : {X : Type 0} (xs : List X) (k : ℕ) (x : X) → k < length xs → x ≡ get_or xs k x
    → slice_set xs k x ≡ xs
set-itself [] k x within is = refl
set-itself (y ∷ xs) zero x within is = ap (λ z. z ∷ xs) is
set-itself (y ∷ xs) (suc k) x within is = ap (λ l. y ∷ l) (set-itself xs k x (omega arith) is)

pub kept-same : (f g : Layout) (parts : Parts) → IsKept f parts → g ≡ f
    → (home : ℕ) → home < length parts.kernels → (kernel next : NodeState)
    → kernel ≡ get_or parts.kernels home kernel → next ≡ kernel
    → IsKept g (record parts { kernels = slice_set parts.kernels home next })
kept-same f g parts kept same home there kernel next is next_eq =
    let unchanged : slice_set parts.kernels home next ≡ parts.kernels =
    ap (slice_set parts.kernels home) next_eq ∙ set-itself parts.kernels home kernel there is in
    subst (λ (l : Layout). IsKept l (record parts { kernels = slice_set parts.kernels home next }))
    (sym same)
    (subst (λ (ks : List NodeState). IsKept f (record parts { kernels = ks })) (sym unchanged) kept)

-- a queue that is put back as it was changes nothing
put_back : (es : List OpenEndpoint) (j : Inc) → with_items es j (items_at es j) ≡ es
put_back [] j = refl
put_back (e ∷ es) j =
    elim (is_at j e) as (λ b. cond b
    (record e { items = items_of (cond b (Some e) (first_match (is_at j) es)) } ∷ es)
    (e ∷ with_items es j (items_of (cond b (Some e) (first_match (is_at j) es)))) ≡ e ∷ es) [
      | true ↦ refl
      | false ↦ ap (λ l. e ∷ l) (put_back es j)
    ]

-- a filter that selects nothing takes nothing out
without_none : (filter : Sigsel) (items : List Item) → first_selected filter items ≡ None
    → without_first filter items ≡ items
without_none filter [] none = refl
without_none filter (x ∷ xs) none =
    let go : (b : Bool) → cond b (Some x) (first_selected filter xs) ≡ None
    → cond b xs (x ∷ without_first filter xs) ≡ x ∷ xs = λ b.
    elim b as (λ c. cond c (Some x) (first_selected filter xs) ≡ None
    → cond c xs (x ∷ without_first filter xs) ≡ x ∷ xs) [
      | true ↦ λ e. cc
      | false ↦ λ e. ap (λ l. x ∷ l) (without_none filter xs e)
    ]
    in
    go (is_selected filter x) none

pub after_take-none : (kernel : NodeState) (j : Inc) (f : Sigsel)
    → first_selected f (items_at kernel.endpoints j) ≡ None → after_take kernel j f ≡ kernel
after_take-none kernel j f none =
    let same : with_items kernel.endpoints j
    (without_first f (items_at kernel.endpoints j)) ≡ kernel.endpoints =
    ap (with_items kernel.endpoints j) (without_none f (items_at kernel.endpoints j) none)
    ∙ put_back kernel.endpoints j
    in
    ap (λ (es : List OpenEndpoint). let k : NodeState = record kernel { endpoints = es } in k) same

pub found-is : (f : Sigsel) (o : Option Item) (item : Item) → Found item ≡ looked_at f o
    → o ≡ Some item
found-is f None item is = cc
found-is f (Some x) item is = let same : item ≡ x = cc in ap (λ y. Some y) (sym same)

pub vain-is : (f g : Sigsel) (o : Option Item) → Vain g ≡ looked_at f o → o ≡ None
vain-is f g None is = refl
vain-is f g (Some x) is = cc

pub vain-filter : (f g : Sigsel) (o : Option Item) → Vain g ≡ looked_at f o → g ≡ f
vain-filter f g None is = cc
vain-filter f g (Some x) is = cc

pub take-none_log : (by : By) (f : Sigsel) (o : Option Item) (log : Log) → o ≡ None
    → (let l : Log = record log { steps = with_take by f o log.steps } in l) ≡ log
take-none_log by f o log none = ap
    (λ (x : Option Item). let l : Log = record log { steps = with_take by f x log.steps } in l) none

-- what was in vain still is, where nothing changed
pub still-vain : (new log : Log) (g f : Sigsel) (k : ℕ) → new ≡ log → g ≡ f
    → first_selected f (queue_of log.steps (endpoint_of log.steps k)) ≡ None
    → first_selected g (queue_of new.steps (endpoint_of new.steps k)) ≡ None
still-vain new log g f k same filter none =
    ap (λ (l : Log). first_selected g (queue_of l.steps (endpoint_of l.steps k))) same
    ∙ ap (λ (x : Sigsel). first_selected x (queue_of log.steps (endpoint_of log.steps k))) filter
    ∙ none
