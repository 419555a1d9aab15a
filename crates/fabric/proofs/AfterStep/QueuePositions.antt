-- What stands in a queue is what came at its position.
use Rattle.std.proofs.Common.{◌≡◌, ℕ, suc, ◌+◌, ◌≤◌, Bool, true, false, cond, not, List, [], ◌∷◌}
use Rattle.std.proofs.Common.{length, Option, Some, refl, ◌∙◌, ap, arith, ◌==◌, slice_get}
use Rattle.std.specs.List.{list_any, AllByRecursion}
use Rattle.std.proofs.lemmas.Bool.Decides.{nat_tests}
use Rattle.linx_base.specs.declared.identity.Inc.{Inc}
use Rattle.linx_base.specs.declared.identity.ItemAt.{ItemAt}
use Rattle.linx_base.specs.declared.item.Item.{Item}
use Rattle.sigsel.specs.Selection.{first_selected, is_selected}
use Rattle.sigsel.specs.declared.sigsel.Sigsel.{Sigsel}
use Rattle.journal.specs.declared.effect.Effect.{Effect}
use Rattle.journal.specs.declared.effect.Effect.TheVariants.{Arrived, Found}
use Rattle.journal.specs.declared.effect.Effect.TheVariants.{Notified}
use Rattle.journal.specs.declared.effect.Step.{Step}
use Rattle.journal.specs.declared.head.Head.{Head}
use Rattle.journal.specs.History.{endpoint_by, opens}
use Rattle.journal.specs.Logs.{nth_effect, step_at}
use Rattle.journal.specs.Queues.{is_item_of, items_from, items_in, left_by, queued, removes}
use Rattle.journal.specs.Queues.{unless_opened}
use Rattle.journal.specs.Traffic.{is_endpoint}
use Rattle.journal.proofs.Lists.{all-append, all-filter, all-first_match, all-impl}
use Rattle.node_kernel.specs.Answers.{item_at, item_or_none, items_by}

-- the item came within the history, at its position
pub record IsCome (P : List Step) (item : Item) : Type 0 where
  pub within : item.pos.step ≤ length P
  pub came : item_at P item.pos ≡ item

-- the number is another one
other_number : (k n : ℕ) → k ≤ n → (k == suc n) ≡ false
other_number k n low = grind (arith, nat_tests)

same_number : (k : ℕ) → (k == k) ≡ true
same_number k = grind (arith, nat_tests)

-- what came before a step
come-later : (s : Step) (P : List Step) (item : Item) → IsCome P item → IsCome (s ∷ P) item
come-later s P item come = record {
  within = let low : item.pos.step ≤ length P = come.within in omega arith;
  came = ap (λ (b : Bool). item_or_none item.pos
      (items_by item.pos (nth_effect item.pos.place (cond b (Some s) (step_at P item.pos.step)))))
      (other_number item.pos.step (length P) come.within) ∙ come.came;
}

-- what an effect of a step brings
module _ (s : Step) (P : List Step) where
  abbrev at : ℕ → ItemAt
  at place = record { step = suc (length P); place = place }

  item_here : (place : ℕ) (e : Effect) → nth_effect place (Some s) ≡ Some e
      → item_at (s ∷ P) (at place) ≡ item_or_none (at place) (items_from (at place) e)
  item_here place e is =
      ap (λ (b : Bool). item_or_none (at place)
      (items_by (at place) (nth_effect place (cond b (Some s) (step_at P (suc (length P)))))))
      (same_number (suc (length P)))
      ∙ ap (λ (o : Option Effect). item_or_none (at place) (items_by (at place) o)) is

  come-one : (place : ℕ) (item : Item) → item.pos ≡ at place → item_at (s ∷ P) (at place) ≡ item
      → IsCome (s ∷ P) item
  come-one place item where_it came = record {
    within = let low : item.pos.step ≡ suc (length P) = ap
        (λ (p : ItemAt). p.step) where_it in omega arith;
    came = ap (item_at (s ∷ P)) where_it ∙ came;
  }

  come-from : (place : ℕ) (e : Effect) → nth_effect place (Some s) ≡ Some e
      → AllByRecursion (IsCome (s ∷ P)) (items_from (at place) e)
  come-from place (Arrived i from note) is =
      (come-one place _ refl (item_here place (Arrived i from note) is), tt)
  come-from place (Found i from note h) is =
      (come-one place _ refl (item_here place (Found i from note h) is), tt)
  come-from place (Notified i from note r reason) is =
      (come-one place _ refl (item_here place (Notified i from note r reason) is), tt)
  come-from place _ is = tt

  come-if : (b : Bool) (items : List Item) → AllByRecursion (IsCome (s ∷ P)) items
      → AllByRecursion (IsCome (s ∷ P)) (cond b items [])
  come-if true items all = all
  come-if false items all = tt

  come-in : (j : Inc) (place : ℕ) (es : List Effect)
      → ((k : ℕ) (e : Effect) → slice_get es k ≡ Some e
      → nth_effect (place + k) (Some s) ≡ Some e)
      → AllByRecursion (IsCome (s ∷ P)) (items_in j (suc (length P)) place es)
  come-in j place [] there = tt
  come-in j place (e ∷ es) there =
      let first : nth_effect place (Some s) ≡ Some e =
      ap (λ (k : ℕ). nth_effect k (Some s)) (let z : place ≡ place + 0 = omega arith in z)
      ∙ there 0 e refl
      in
      all-append (IsCome (s ∷ P)) (cond (is_item_of j e) (items_from (at place) e) [])
      (items_in j (suc (length P)) (place + 1) es)
      (come-if (is_item_of j e) (items_from (at place) e) (come-from place e first))
      (come-in j (place + 1) es
      (λ k f is. ap (λ (n : ℕ). nth_effect n (Some s))
      (let z : (place + 1) + k ≡ place + suc k = omega arith in z)
      ∙ there (suc k) f is))

  come-step : (j : Inc) → AllByRecursion (IsCome (s ∷ P)) (items_in j (suc (length P)) 1 s.effects)
  come-step j =
      come-in j 1 s.effects
      (λ k e is. ap (λ (n : ℕ). nth_effect n (Some s)) (let z : 1 + k ≡ suc k = omega arith in z)
      ∙ is)

come-left : (P : List Step) (mine : Bool) (head : Head) (items : List Item)
    → AllByRecursion (IsCome P) items → AllByRecursion (IsCome P) (left_by mine head items)
come-left P true head items all = all-filter (IsCome P) (λ item. not (removes head item)) items all
come-left P false head items all = all

come-kept : (P : List Step) (opened : Bool) (items : List Item) → AllByRecursion (IsCome P) items
    → AllByRecursion (IsCome P) (cond opened [] items)
come-kept P true items all = tt
come-kept P false items all = all

pub queued-come : (P : List Step) (j : Inc) → AllByRecursion (IsCome P) (queued P j)
queued-come [] j = tt
queued-come (s ∷ P) j =
    let before = all-impl (IsCome P) (IsCome (s ∷ P)) (come-later s P) (queued P j)
    (queued-come P j) in
    all-append (IsCome (s ∷ P)) (left_by (is_endpoint j (endpoint_by P s.by)) s.head
    (unless_opened j s.effects (queued P j))) (items_in j (suc (length P)) 1 s.effects)
    (come-left (s ∷ P) (is_endpoint j (endpoint_by P s.by)) s.head
    (unless_opened j s.effects (queued P j))
    (come-kept (s ∷ P) (list_any (opens j) s.effects) (queued P j) before))
    (come-step s P j)

-- a taken item is the one that came at its position
pub item-came : (P : List Step) (j : Inc) (f : Sigsel) (item : Item)
    → first_selected f (queued P j) ≡ Some item → item_at P item.pos ≡ item
item-came P j f item is = (all-first_match (IsCome P) (is_selected f) (queued P j) item
    (queued-come P j) is).came
