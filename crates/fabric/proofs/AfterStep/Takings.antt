-- What a step leaves of its node is what the kernel's call for it leaves: receives and detaches.
use Rattle.std.proofs.Common.{◌≡◌, ℕ, ◌<◌, Bool, true, false, not, ◌||◌, List, [], ◌∷◌, map, filter}
use Rattle.std.proofs.Common.{Some, refl, sym, ◌∙◌, ap, subst, arith, append-nil}
use Rattle.std.specs.List.{list_any, AllByRecursion}
use Rattle.std.proofs.Math.Bool.{or-false}
use Rattle.std.proofs.lemmas.Bool.Decides.{nat_tests}
use Rattle.linx_base.specs.Peers.{same_inc}
use Rattle.linx_base.specs.declared.identity.AttRef.{AttRef}
use Rattle.linx_base.specs.declared.identity.Inc.{Inc}
use Rattle.linx_base.specs.declared.identity.ItemAt.{ItemAt}
use Rattle.linx_base.specs.declared.item.Item.{Item}
use Rattle.linx_base.specs.declared.pending.PendingAttach.{PendingAttach}
use Rattle.sigsel.specs.Selection.{first_selected, is_notice_of, without_first}
use Rattle.sigsel.specs.declared.sigsel.Sigsel.{Sigsel}
use Rattle.journal.specs.declared.effect.Step.{Step}
use Rattle.journal.specs.declared.head.Detached.{Detached}
use Rattle.journal.specs.declared.head.Detached.TheVariants.{Pending, Queued, None as Neither}
use Rattle.journal.specs.declared.head.Head.{Head}
use Rattle.journal.specs.declared.head.Head.TheVariants.{Take, Detach}
use Rattle.linx_base.specs.Pending.{is_attach}
use Rattle.journal.specs.Pending.{ends_attach}
use Rattle.journal.specs.Queues.{left_by, queued}
use Rattle.journal.proofs.Openings.{Rising, same_inc-refl, same_inc-true}
use Rattle.journal.proofs.Queueing.{left-take}
use Rattle.node_kernel.specs.Nodes.{NodeState, OpenEndpoint, items_at, with_items}
use Rattle.node_kernel.specs.Calls.{after_detach_of}
use Rattle.fabric.specs.Remains.{endpoint_left}
use Rattle.fabric.proofs.AfterStep.Effects.{leaves-none}
use Rattle.fabric.proofs.AfterStep.Tables.{after_step}
use Rattle.fabric.proofs.AfterStep.Pendings.{filter-agree}
use Rattle.fabric.proofs.AfterStep.EndpointsStay.{endpoints-kept, endpoints-put, hunts-kept}
use Rattle.fabric.proofs.AfterStep.EndpointsStay.{openings-kept}
use Rattle.fabric.proofs.AfterStep.EndpointsStay.{owed-kept, put-none, put_past, state_by_parts}

-- incarnations tell whether they are the same from either side
pub same_inc-sym : (i j : Inc) → same_inc i j ≡ same_inc j i
same_inc-sym i j = grind (arith, nat_tests)

pub same_inc-above : (i j : Inc) → i.0 < j.0 → same_inc i j ≡ false
same_inc-above i j low = grind (arith, nat_tests)

module _ (P : List Step) (j : Inc) where
  -- what stands at an open endpoint is its queue
  pub items_left : (incs : List Inc) → list_any (same_inc j) incs ≡ true
      → items_at (map (endpoint_left P) incs) j ≡ queued P j
  items_left [] is = cc
  items_left (i ∷ incs) is =
      let go : (b : Bool) → same_inc j i ≡ b → (b || list_any (same_inc j) incs) ≡ true
      → items_at (map (endpoint_left P) (i ∷ incs)) j ≡ queued P j = λ b.
      elim b as (λ c. same_inc j i ≡ c → (c || list_any (same_inc j) incs) ≡ true
      → items_at (map (endpoint_left P) (i ∷ incs)) j ≡ queued P j) [
        | true ↦ λ same is. rw same (ap (queued P) (sym (same_inc-true j i same)))
        | false ↦ λ other is. rw other (items_left incs is)
      ]
      in
      go (same_inc j i) refl is

  module _ (g : OpenEndpoint → OpenEndpoint) (items : List Item)
      (others : (i : Inc) → same_inc j i ≡ false → g (endpoint_left P i) ≡ endpoint_left P i)
      (itself : g (endpoint_left P j) ≡ record (endpoint_left P j) { items = items }) where
    others-kept : (incs : List Inc) → AllByRecursion (λ i. j.0 < i.0) incs
        → map g (map (endpoint_left P) incs) ≡ map (endpoint_left P) incs
    others-kept [] all = refl
    others-kept (i ∷ incs) all =
        rw (others i (same_inc-above j i all.0), others-kept incs all.1) refl

    -- what changes one endpoint alone, changes its items
    pub changed-one : (incs : List Inc) → Rising incs
        → map g (map (endpoint_left P) incs) ≡ with_items (map (endpoint_left P) incs) j items
    changed-one [] up = refl
    changed-one (i ∷ incs) up =
        let go : (b : Bool) → same_inc j i ≡ b
        → map g (map (endpoint_left P) (i ∷ incs))
        ≡ with_items (map (endpoint_left P) (i ∷ incs)) j items = λ b.
        elim b as (λ c. same_inc j i ≡ c
        → map g (map (endpoint_left P) (i ∷ incs))
        ≡ with_items (map (endpoint_left P) (i ∷ incs)) j items) [
          | true ↦ λ same.
              let e : j ≡ i = same_inc-true j i same in
              let above : AllByRecursion (λ x. j.0 < x.0) incs =
              subst (λ (y : Inc). AllByRecursion (λ x. y.0 < x.0) incs) (sym e) up.0 in
              let here : g (endpoint_left P i) ≡ record (endpoint_left P i) { items = items } =
              subst (λ (y : Inc). g (endpoint_left P y)
              ≡ record (endpoint_left P y) { items = items }) e itself in
              rw (same, here, others-kept incs above) refl
          | false ↦ λ other. rw (other, others i other, changed-one incs up.1) refl
        ]
        in
        go (same_inc j i) refl

  -- an endpoint that isn't the maker's keeps its items
  module _ (k : ℕ) (head : Head) where
    pub other-kept : (i : Inc) → same_inc j i ≡ false
        → put_past k (Some j) head [] (endpoint_left P i) ≡ endpoint_left P i
    other-kept i other =
        rw (same_inc-sym i j ∙ other, append-nil (queued P i)) refl

    pub own-left : (items : List Item) → left_by true head (queued P j) ≡ items
        → put_past k (Some j) head [] (endpoint_left P j) ≡ record (endpoint_left P j) {
          items =
              items;
        }
    own-left items is =
        rw (same_inc-refl j, append-nil (left_by true head (queued P j)), is) refl

-- the maker's step takes something out of its queue
module _ (P : List Step) (j : Inc) (incs : List Inc) (k : ℕ) (head : Head) (old : NodeState)
    (rising : Rising incs) (left : old.endpoints ≡ map (endpoint_left P) incs)
    (items : List Item) (taken : left_by true head (queued P j) ≡ items) where
  endpoints-taken : map (put_past k (Some j) head []) old.endpoints
      ≡ with_items old.endpoints j items
  endpoints-taken =
      rw left (changed-one P j (put_past k (Some j) head []) items (other-kept P j k head)
      (own-left P j k head items taken) incs rising)

-- A RECEIVE that takes an item
pub take-left : (P : List Step) (j : Inc) (incs : List Inc) (k : ℕ) (filter : Sigsel) (item : Item)
    (position : ItemAt) (old : NodeState) → Rising incs → old.endpoints ≡ map (endpoint_left P) incs
    → list_any (same_inc j) incs ≡ true → first_selected filter (queued P j) ≡ Some item
    → item.pos ≡ position
    → after_step k (Some j) (Take filter position) [] old
    ≡ record old {
      endpoints = with_items old.endpoints j (without_first filter
          (items_at old.endpoints j));
    }
take-left P j incs k sel item position old rising left mine is at =
    let node : ℕ = old.node.0 in
    let head : Head = Take sel position in
    let items : List Item = without_first sel (queued P j) in
    let taken : left_by true head (queued P j) ≡ items =
    subst (λ (p : ItemAt). left_by true (Take sel p) (queued P j)
    ≡ items) at (left-take P j sel item is) in
    let same : items ≡ without_first sel (items_at old.endpoints j) =
    ap (without_first sel) (sym (ap (λ es. items_at es j) left ∙ items_left P j incs mine)) in
    state_by_parts old.node _ _ _ _ _ _ _ _ _ _
    (openings-kept node k (Some j) head [] leaves-none old.openings)
    (endpoints-kept node k (Some j) head [] leaves-none old.endpoints
    ∙ endpoints-taken P j incs k head old rising left items taken
    ∙ ap (with_items old.endpoints j) same)
    (hunts-kept node k (Some j) head [] leaves-none old.hunts (λ n. refl) refl)
    (owed-kept node k (Some j) head [] leaves-none old.attaches (λ r. refl) (λ a. refl) refl)
    refl

-- A DETACH, by its answer
module _ (P : List Step) (j : Inc) (incs : List Inc) (k : ℕ) (r : AttRef) (old : NodeState)
    (rising : Rising incs) (left : old.endpoints ≡ map (endpoint_left P) incs)
    (mine : list_any (same_inc j) incs ≡ true) where
  pub detach-left : (answer : Detached)
      → after_step k (Some j) (Detach r answer) [] old ≡ after_detach_of answer old j r
  detach-left Pending =
      let node : ℕ = old.node.0 in
      let head : Head = Detach r Pending in
      let p : PendingAttach → Bool = λ a. not (ends_attach (Some j) head [] a) in
      let q : PendingAttach → Bool = λ a. not (is_attach j r a) in
      let agree : (xs : List PendingAttach) → AllByRecursion (λ a. p a ≡ q a) xs =
      λ xs. every p q (λ a. ap not (or-false (is_attach j r a))) xs in
      state_by_parts old.node _ _ _ _ _ _ _ _ _ _
      (openings-kept node k (Some j) head [] leaves-none old.openings)
      (endpoints-put node k (Some j) head [] leaves-none old.endpoints (λ x. refl)
      ∙ put-none k old.endpoints)
      (hunts-kept node k (Some j) head [] leaves-none old.hunts (λ n. refl) refl)
      (ap (filter p) (append-nil old.attaches) ∙ filter-agree p q old.attaches (agree old.attaches))
      refl
    where
      every : (p q : PendingAttach → Bool) → ((a : PendingAttach) → p a ≡ q a)
          → (xs : List PendingAttach) → AllByRecursion (λ a. p a ≡ q a) xs
      every p q same [] = tt
      every p q same (x ∷ xs) = (same x, every p q same xs)
  detach-left Queued =
      let node : ℕ = old.node.0 in
      let head : Head = Detach r Queued in
      let items : List Item = filter (λ item. not (is_notice_of r item)) (queued P j) in
      let same : items ≡ filter (λ item. not (is_notice_of r item)) (items_at old.endpoints j) =
      ap (filter (λ item. not (is_notice_of r item))) (sym (ap (λ es. items_at es j) left
      ∙ items_left P j incs mine)) in
      state_by_parts old.node _ _ _ _ _ _ _ _ _ _
      (openings-kept node k (Some j) head [] leaves-none old.openings)
      (endpoints-kept node k (Some j) head [] leaves-none old.endpoints
      ∙ endpoints-taken P j incs k head old rising left items refl
      ∙ ap (with_items old.endpoints j) same)
      (hunts-kept node k (Some j) head [] leaves-none old.hunts (λ n. refl) refl)
      (owed-kept node k (Some j) head [] leaves-none old.attaches (λ r. refl) (λ a. refl) refl)
      refl
  detach-left Neither =
      let node : ℕ = old.node.0 in
      let head : Head = Detach r Neither in
      state_by_parts old.node _ _ _ _ _ _ _ _ _ _
      (openings-kept node k (Some j) head [] leaves-none old.openings)
      (endpoints-put node k (Some j) head [] leaves-none old.endpoints (λ x. refl)
      ∙ put-none k old.endpoints)
      (hunts-kept node k (Some j) head [] leaves-none old.hunts (λ n. refl) refl)
      (owed-kept node k (Some j) head [] leaves-none old.attaches (λ r. refl) (λ a. refl) refl)
      refl
