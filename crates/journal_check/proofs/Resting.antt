-- Who is at rest, and what a receive says: the law is what the tables tell.
use Rattle.std.proofs.Common.{◌≡◌, ◌≢◌, ℕ, zero, suc, ◌<◌, ◌≤◌, Bool, true, false, ◌&&◌, ◌||◌, List}
use Rattle.std.proofs.Common.{length, Option, Some, None, is_none, inl, inr, refl, sym, ◌∙◌, ap}
use Rattle.std.proofs.Common.{arith, ◌==◌, nat_lt, option_map, IsSomeAnd, eq-eqb, eqb-true}
use Rattle.std.proofs.Common.{true≢false}
use Rattle.std.proofs.lemmas.Bool.{and_parts, or_cases, or_left, or_right}
use Rattle.linx_base.specs.declared.identity.Inc.{Inc}
use Rattle.linx_base.specs.declared.identity.ItemAt.{ItemAt}
use Rattle.linx_base.specs.declared.identity.NodeNo.{NodeNo}
use Rattle.linx_base.specs.declared.item.Item.{Item}
use Rattle.sigsel.specs.Selection.{first_selected}
use Rattle.sigsel.specs.declared.sigsel.Sigsel.{Sigsel}
use Rattle.journal.specs.declared.by.By.TheVariants.{Actor}
use Rattle.journal.specs.declared.effect.Step.{Step}
use Rattle.journal.specs.declared.head.Head.{Head}
use Rattle.journal.specs.History.{endpoint_of, has_ended}
use Rattle.journal.specs.Laws.{KeepsEndpoints}
use Rattle.journal.specs.Laws.{KeepsReceives, detached_as}
use Rattle.journal.specs.Queues.{queued}
use Rattle.journal.specs.Rest.{is_idle, leaves_at_rest, queue_of}
use Rattle.journal.specs.Rest.{waits_in_vain, waits_with}
use Rattle.journal.specs.Shapes.{node_by}
use Rattle.journal.specs.declared.head.Head.TheVariants as heads
use Rattle.journal.proofs.Openings.{IsShort}
use Rattle.node_kernel.specs.Nodes.{NodeState, items_at}
use Rattle.fabric.specs.Remains.{node_left}
use Rattle.fabric.proofs.AfterStep.NodeOffTheLinks as nodes
use Rattle.journal_check.specs.Calls.{AnswersAs, own_items}
use Rattle.journal_check.specs.Earliest.{first_at}
use Rattle.journal_check.specs.Standings.{standing_of}
use Rattle.journal_check.specs.Tables.{AreLeft, Known, all_leave_at_rest_in}
use Rattle.journal_check.specs.Tables.{ended_in, endpoint_in, is_idle_in, is_patient_actor}
use Rattle.journal_check.specs.Tables.{is_vain_at, kernel_of_maker, leaves_at_rest_in}
use Rattle.journal_check.specs.Tables.{waits_in_standing}
use Rattle.journal_check.specs.declared.standing.Standing.{Standing}
use Rattle.journal_check.proofs.Actors.{stands-left}
use Rattle.journal_check.proofs.Heads.{both}
use Rattle.journal_check.proofs.Nodes.{maker-left, no-item}

no-filter : (w : Option Sigsel) → is_none w ≡ true → w ≡ None
no-filter None is = refl
no-filter (Some f) is = absurd (true≢false (sym is))

-- the item at a position, and the position of an item
there-is : (o : Option Item) (position : ItemAt)
    → option_map (λ (item : Item). item.pos) o ≡ Some position
    → IsSomeAnd o (λ item. item.pos ≡ position)
there-is None position is = cc is
there-is (Some item) position is = cc is

is-there : (o : Option Item) (position : ItemAt) → IsSomeAnd o (λ item. item.pos ≡ position)
    → option_map (λ (item : Item). item.pos) o ≡ Some position
is-there None position is = absurd is
is-there (Some item) position is = ap (λ (at : ItemAt). Some at) is

module _ (P : List Step) (t : Known) (left : AreLeft P t) (short : IsShort P) where
  abbrev node : ℕ → NodeNo
  node k = record { 0 = node_by t.shape (Actor k) }

  vain-same : (k : ℕ) (w : Option Sigsel) (e : Option Inc) → endpoint_of P k ≡ e
      → is_vain_at (node_left P (node k)) w e ≡ waits_in_vain P w e
  vain-same k None e is = refl
  vain-same k (Some f) None is = refl
  vain-same k (Some f) (Some j) is =
      ap (λ items. is_none (first_selected f items))
      (nodes.own-items t.shape P left.legal short k (node k) refl j is)

  idle-same : (k : ℕ) → 0 < k → k ≤ length t.shape.actors → is_idle_in t k ≡ is_idle P k
  idle-same k above within =
      ap (λ (o : Option Standing). is_vain_at (kernel_of_maker t (Actor k)) (waits_in_standing o)
      (endpoint_in o)) (stands-left P t left k above within)
      ∙ ap (λ (n : NodeState). is_vain_at n (waits_with P k) (endpoint_of P k))
      (maker-left P t left k above within)
      ∙ vain-same k (waits_with P k) (endpoint_of P k) refl

  pub leaves-same : (k other : ℕ) → 0 < other → other ≤ length t.shape.actors
      → leaves_at_rest_in t k other ≡ leaves_at_rest P k other
  leaves-same k other above within =
      ap (λ (o : Option Standing). ended_in o || (is_idle_in t other && nat_lt k other))
      (stands-left P t left other above within)
      ∙ ap (λ (b : Bool). has_ended P other || (b && nat_lt k other)) (idle-same other above within)

  -- where all leave an actor at rest, each other one does
  rest-each : (k n : ℕ) → n ≤ length t.shape.actors → all_leave_at_rest_in t k n ≡ true
      → (other : ℕ) → 0 < other → other ≤ n → other ≢ k → leaves_at_rest P k other ≡ true
  rest-each k zero few all other above within different = absurd (omega arith)
  rest-each k (suc n) few all other above within different =
      let parts = and_parts (all_leave_at_rest_in t k n)
      ((k == suc n) || leaves_at_rest_in t k (suc n)) all in
      go (λ less. rest-each k n (omega arith) parts.0 other above (omega (arith, less)) different)
      (other == suc n) refl parts.1
    where
      last : (other ≡ suc n) → (((k == suc n) || leaves_at_rest_in t k (suc n)) ≡ true)
          → leaves_at_rest P k other ≡ true
      last same is =
          elim (or_cases (k == suc n) (leaves_at_rest_in t k (suc n)) is) [
            | inl e ↦ absurd (different (same ∙ sym (eqb-true k (suc n) e)))
            | inr e ↦ ap (leaves_at_rest P k) same
                ∙ sym (leaves-same k (suc n) (omega arith) few) ∙ e
          ]

      go : (other ≢ suc n → leaves_at_rest P k other ≡ true) → (b : Bool) → (other == suc n) ≡ b
          → (((k == suc n) || leaves_at_rest_in t k (suc n)) ≡ true)
          → leaves_at_rest P k other ≡ true
      go before true e back = last (eqb-true other (suc n) e) back
      go before false e back =
          before (λ same. true≢false (sym (eq-eqb other (suc n) same) ∙ e))

  -- and where each other one does, all do
  each-rest : (k n : ℕ) → n ≤ length t.shape.actors
      → ((other : ℕ) → 0 < other → other ≤ n → other ≢ k → leaves_at_rest P k other ≡ true)
      → all_leave_at_rest_in t k n ≡ true
  each-rest k zero few each = refl
  each-rest k (suc n) few each =
      both (all_leave_at_rest_in t k n) ((k == suc n) || leaves_at_rest_in t k (suc n))
      (each-rest k n (omega arith) (λ other above within different. each other above (omega arith)
      different))
      (go (k == suc n) refl)
    where
      go : (b : Bool) → (k == suc n) ≡ b
          → ((k == suc n) || leaves_at_rest_in t k (suc n)) ≡ true
      go true e = or_left (k == suc n) (leaves_at_rest_in t k (suc n)) e
      go false e =
          or_right (k == suc n) (leaves_at_rest_in t k (suc n))
          (leaves-same k (suc n) (omega arith) few
          ∙ each (suc n) (omega arith) (omega arith)
          (λ same. true≢false (sym (eq-eqb k (suc n) (sym same)) ∙ e)))

  -- THE LAW OF RECEIVING, of an actor with its endpoint
  module _ (k : ℕ) (above : 0 < k) (within : k ≤ length t.shape.actors) where
    abbrev old : NodeState
    old = node_left P (node k)

    items-same : (j : Inc) → endpoint_of P k ≡ Some j → items_at old.endpoints j ≡ queued P j
    items-same = nodes.own-items t.shape P left.legal short k (node k) refl

    -- the items of its endpoint are those of its queue
    pub own-same : (me : Option Inc) → endpoint_of P k ≡ me → own_items old me ≡ queue_of P me
    own-same None mine = refl
    own-same (Some j) mine = items-same j mine

    first-same : (me : Option Inc) → endpoint_of P k ≡ me → (f : Sigsel)
        → first_at f (own_items old me) ≡ first_at f (queue_of P me)
    first-same me mine f = ap (first_at f) (own-same me mine)

    none-selected : (me : Option Inc) → endpoint_of P k ≡ me → (f : Sigsel)
        → first_at f (own_items old me) ≡ None → first_selected f (queue_of P me) ≡ None
    none-selected me mine f none =
        no-item (first_selected f (queue_of P me)) (sym (first-same me mine f) ∙ none)

    selected-none : (me : Option Inc) → endpoint_of P k ≡ me → (f : Sigsel)
        → first_selected f (queue_of P me) ≡ None → first_at f (own_items old me) ≡ None
    selected-none me mine f none =
        first-same me mine f ∙ ap (option_map (λ (item : Item). item.pos)) none

    waits-same : waits_in_standing (standing_of t.standings k) ≡ waits_with P k
    waits-same = ap waits_in_standing (stands-left P t left k above within)

    abbrev Receives : Option Inc → Head → Type 0
    Receives me head = KeepsReceives t.shape P (node_by t.shape (Actor k)) (Actor k) me head

    pub received : (me : Option Inc) → endpoint_of P k ≡ me → (head : Head)
        → KeepsEndpoints me head → AnswersAs old me head → is_patient_actor t k head ≡ true
        → Receives me head
    received me mine (heads.Take f position) ends answers patient =
        there-is (first_selected f (queue_of P me)) position
        (sym (first-same me mine f) ∙ answers)
    received me mine (heads.TakeNone f) ends answers patient = (
      none-selected me mine f answers,
      record {
        others = λ other over under different. rest-each k (length t.shape.actors) (omega arith)
            patient other over under different;
      },
    )
    received me mine (heads.Waits f) ends answers patient = (
      none-selected me mine f answers,
      sym waits-same ∙ no-filter (waits_in_standing (standing_of t.standings k)) patient,
    )
    received None mine (heads.Detach r answer) ends answers patient =
        absurd (true≢false (sym (ends.needs refl)))
    received (Some j) mine (heads.Detach r answer) ends answers patient =
        answers ∙ nodes.detached-left t.shape P left.legal short k (node k) refl j r mine
        ∙ ap (λ (e : Option Inc). detached_as P
        (node_by t.shape (Actor k)) e r) mine
    received me mine _ ends answers patient = tt

    pub answered : (me : Option Inc) → endpoint_of P k ≡ me → (head : Head)
        → Receives me head → AnswersAs old me head
    answered me mine (heads.Take f position) kept =
        first-same me mine f
        ∙ is-there (first_selected f (queue_of P me)) position kept
    answered me mine (heads.TakeNone f) kept = selected-none me mine f kept.0
    answered me mine (heads.Waits f) kept = selected-none me mine f kept.0
    answered None mine (heads.Detach r answer) kept = tt
    answered (Some j) mine (heads.Detach r answer) kept =
        kept ∙ sym (nodes.detached-left t.shape P left.legal short k (node k) refl j r mine
        ∙ ap (λ (e : Option Inc). detached_as P
        (node_by t.shape (Actor k)) e r) mine)
    answered me mine _ kept = tt

    pub patient : (me : Option Inc) (head : Head) → Receives me head
        → is_patient_actor t k head ≡ true
    patient me (heads.TakeNone f) kept =
        each-rest k (length t.shape.actors) (omega arith)
        (λ other over under different. kept.1.others other over under different)
    patient me (heads.Waits f) kept = ap is_none (waits-same ∙ kept.1)
    patient me _ kept = refl
