-- What the kernels tell of a step of an actor, and what they are after it: the history's words.
use Rattle.std.proofs.Common.{◌≡◌, ℕ, zero, suc, ◌<◌, ◌≤◌, Bool, true, false, List, [], ◌∷◌}
use Rattle.std.proofs.Common.{length, Option, Some, None, refl, sym, ◌∙◌, ap, subst, arith}
use Rattle.std.proofs.Common.{is_some, nat_lt, slice_get, option_map, eqb-true, ltb-false, ltb-true}
use Rattle.std.proofs.Common.{true≢false}
use Rattle.std.specs.List.{list_any, AllByRecursion}
use Rattle.std.proofs.lemmas.Bool.{or_left}
use Rattle.linx_base.specs.Numbers.{node_of}
use Rattle.linx_base.specs.Peers.{same_inc}
use Rattle.linx_base.specs.declared.identity.Inc.{Inc}
use Rattle.linx_base.specs.declared.identity.ItemAt.{ItemAt}
use Rattle.linx_base.specs.declared.identity.NodeNo.{NodeNo}
use Rattle.linx_base.specs.declared.identity.Peer.{Peer}
use Rattle.linx_base.specs.declared.item.Item.{Item}
use Rattle.linx_base.specs.declared.name.Path.{Path}
use Rattle.linx_base.specs.SigNotes.{SigNote}
use Rattle.sigsel.specs.Selection.{first_selected, is_selected}
use Rattle.sigsel.specs.declared.sigsel.Sigsel.{Sigsel}
use Rattle.journal.specs.declared.by.By.TheVariants.{Actor}
use Rattle.journal.specs.declared.effect.Step.{Step}
use Rattle.journal.specs.declared.head.Detached.{Detached}
use Rattle.journal.specs.declared.head.Head.{Head}
use Rattle.journal.specs.Effects.{arrivals_of, attached, closings}
use Rattle.journal.specs.Effects.{hunted}
use Rattle.journal.specs.History.{endpoint_of, open_endpoints}
use Rattle.journal.specs.Laws.{KeepsEndpoints, attaching}
use Rattle.journal.specs.Laws.{effects_by, hunting_by, sending}
use Rattle.journal.specs.Shapes.{Shape, node_by, number_or_0}
use Rattle.journal.specs.declared.head.Head.TheVariants as heads
use Rattle.journal.proofs.Openings.{IsBelow, IsShort, same_inc-refl}
use Rattle.link_laws.specs.Laws.{IsLegal}
use Rattle.link_laws.proofs.Endpoints.Places.{endpoint-on, open-below, owned}
use Rattle.node_kernel.specs.Calls.{after_detach_of}
use Rattle.node_kernel.specs.Nodes.{NodeState, OpenEndpoint, items_at, with_items}
use Rattle.node_kernel.proofs.Calling.{same_items}
use Rattle.fabric.specs.Remains.{node_left, IsNode}
use Rattle.fabric.proofs.AfterStep.NodeOffTheLinks as nodes
use Rattle.journal_check.specs.Calls.{AnswersAs, after_receive, attach_effects, attach_of, call_after}
use Rattle.journal_check.specs.Calls.{call_effects, hunt_effects, hunt_of, send_effects}
use Rattle.journal_check.specs.Earliest.{first_at}
use Rattle.journal_check.specs.Tables.{AreLeft}
use Rattle.journal_check.specs.Tables.{Known, kernel_of, kernel_of_maker, kernel_or_empty}
use Rattle.journal_check.specs.Tables.{restart_closings, restarted_node}
use Rattle.journal_check.proofs.Books.{incs-left}
use Rattle.journal_check.proofs.Lists.{past-list, without-none}

-- THE EFFECTS OF A CALL at a node that a history left are those that its head has
module _ (P : List Step) (node : NodeNo) where
  abbrev now : ℕ
  now = suc (length P)

  sends-same : (me : Option Inc) (q : Peer) (note : SigNote)
      → send_effects (node_left P node) me q note ≡ sending P node.0 me q note
  sends-same None q note = refl
  sends-same (Some j) q note =
      ap (λ (b : Bool). arrivals_of j note b q) (nodes.living-left P node q)

  hunts-same : (me : Option Inc) (path : Path) (note : SigNote)
      → hunt_effects (node_left P node) now me path note ≡ hunting_by P node.0 me path note
  hunts-same None path note = refl
  hunts-same (Some j) path note =
      ap (λ (o : Option Peer). hunted o (hunt_of now j path note)) (nodes.find-left P node path)

  attaches-same : (me : Option Inc) (q : Peer) (note : SigNote)
      → attach_effects (node_left P node) now me q note ≡ attaching P node.0 me q note
  attaches-same None q note = refl
  attaches-same (Some j) q note =
      ap (λ (b : Bool). attached b (attach_of now j q note)) (nodes.living-left P node q)

  pub effects-same : (me : Option Inc) (head : Head) → restarted_node head ≡ None
      → call_effects (node_left P node) now me head ≡ effects_by P node.0 me head
  effects-same me (heads.Send q note answer) plain = sends-same me q note
  effects-same me (heads.Hunt path note) plain = hunts-same me path note
  effects-same me (heads.Attach q note) plain = attaches-same me q note
  effects-same me (heads.Restart m) plain = cc
  effects-same me _ plain = refl

-- where no position is told, there is no item
pub no-item : (o : Option Item) → option_map (λ (item : Item). item.pos) o ≡ None → o ≡ None
no-item None none = refl
no-item (Some item) none = cc none

-- a receive that finds none leaves the node as it is
vain-after : (n : NodeState) (j : Inc) (f : Sigsel) → first_at f (items_at n.endpoints j) ≡ None
    → after_receive n j f ≡ n
vain-after n j f none =
    ap (λ (items : List Item). let m : NodeState = record n {
      endpoints = with_items n.endpoints j items;
    } in m) (without-none (is_selected f) (items_at n.endpoints j)
    (no-item (first_selected f (items_at n.endpoints j)) none))
    ∙ ap (λ (es : List OpenEndpoint). let m : NodeState = record n { endpoints = es } in m)
    (same_items n.endpoints j)

-- THE NODE AFTER A CALL of an actor that keeps the laws
module _ (shape : Shape) (P : List Step) (legal : IsLegal shape P) (short : IsShort P)
    (k : ℕ) (node : NodeNo) (home : node_by shape (Actor k) ≡ node.0) where
  abbrev at : ℕ
  at = suc (length P)

  abbrev old : NodeState
  old = node_left P node

  -- a step of the actor with the effects of its head
  abbrev pub step_by : Head → Step
  step_by head = record {
    by = Actor k;
    head = head;
    effects = effects_by P (node_by shape (Actor k)) (endpoint_of P k) head;
  }

  -- the node as the kernel's call leaves it
  abbrev IsCalled : Head → Type 0
  IsCalled head =
      node_left (step_by head ∷ P) node ≡ call_after old at (endpoint_of P k) head

  -- with the endpoint known
  abbrev IsLeftBy : Option Inc → Head → Type 0
  IsLeftBy me head = node_left (step_by head ∷ P) node ≡ call_after old at me head

  none-there : {A : Type 0} (me : Option Inc) → me ≡ None → is_some me ≡ true → A
  none-there me none some = absurd (true≢false (sym some ∙ ap is_some none))

  taken : (j : Inc) → endpoint_of P k ≡ Some j → (f : Sigsel) (position : ItemAt)
      → (o : Option Item) → first_selected f (items_at old.endpoints j) ≡ o
      → option_map (λ (item : Item). item.pos) o ≡ Some position
      → IsLeftBy (Some j) (heads.Take f position)
  taken j mine f position None is answers = cc answers
  taken j mine f position (Some item) is answers =
      let same : item.pos ≡ position = cc answers in
      subst (λ (p : ItemAt). IsLeftBy (Some j) (heads.Take f p)) same
      (nodes.node-take shape P legal short k node home j f item mine
      (ap (first_selected f) (sym (nodes.own-items shape P legal short k node home j mine)) ∙ is))

  by-endpoint : (head : Head) → restarted_node head ≡ None → (me : Option Inc)
      → endpoint_of P k ≡ me → KeepsEndpoints me head → AnswersAs old me head
      → IsLeftBy me head
  by-endpoint (heads.Open name) plain None mine ends answers =
      nodes.node-open shape P legal short k node home name mine
  by-endpoint (heads.Open name) plain (Some j) mine ends answers =
      absurd (true≢false (sym (ends.opens refl)))
  by-endpoint heads.Close plain (Some j) mine ends answers =
      nodes.node-close shape P legal short k node home j mine
  by-endpoint (heads.Send q note answer) plain (Some j) mine ends answers =
      nodes.node-send shape P legal short k node home j q note answer mine
  by-endpoint (heads.Take f position) plain (Some j) mine ends answers =
      taken j mine f position (first_selected f (items_at old.endpoints j)) refl answers
  by-endpoint (heads.TakeNone f) plain (Some j) mine ends answers =
      nodes.node-quiet shape P legal short k node home (heads.TakeNone f) refl (λ x. refl) refl
      (λ a. refl) refl ∙ sym (vain-after old j f answers)
  by-endpoint (heads.Waits f) plain (Some j) mine ends answers =
      nodes.node-quiet shape P legal short k node home (heads.Waits f) refl (λ x. refl) refl
      (λ a. refl) refl ∙ sym (vain-after old j f answers)
  by-endpoint (heads.Hunt path note) plain (Some j) mine ends answers =
      nodes.node-hunt shape P legal short k node home j path note mine
  by-endpoint (heads.Attach q note) plain (Some j) mine ends answers =
      nodes.node-attach shape P legal short k node home j q note mine
  by-endpoint (heads.Detach r answer) plain (Some j) mine ends answers =
      nodes.node-detach shape P legal short k node home j r answer mine
      ∙ ap (λ (d : Detached). after_detach_of d old j r) answers
  by-endpoint (heads.Cut l) plain me mine ends answers =
      nodes.node-quiet shape P legal short k node home (heads.Cut l) refl (λ x. refl) refl
      (λ a. refl) refl
  by-endpoint (heads.Mend l) plain me mine ends answers =
      nodes.node-quiet shape P legal short k node home (heads.Mend l) refl (λ x. refl) refl
      (λ a. refl) refl
  by-endpoint (heads.Settle l) plain me mine ends answers =
      nodes.node-quiet shape P legal short k node home (heads.Settle l) refl (λ x. refl) refl
      (λ a. refl) refl
  by-endpoint (heads.Restart m) plain me mine ends answers = cc
  by-endpoint (heads.Wire l side verdict) plain me mine ends answers =
      nodes.node-quiet shape P legal short k node home (heads.Wire l side verdict) refl (λ x. refl)
      refl (λ a. refl) refl
  by-endpoint (heads.Tick l side) plain me mine ends answers =
      nodes.node-quiet shape P legal short k node home (heads.Tick l side) refl (λ x. refl) refl
      (λ a. refl) refl
  by-endpoint (heads.Refused reason) plain me mine ends answers =
      nodes.node-quiet shape P legal short k node home (heads.Refused reason) refl (λ x. refl) refl
      (λ a. refl) refl
  by-endpoint heads.Ended plain None mine ends answers =
      nodes.node-quiet shape P legal short k node home heads.Ended
      (ap (λ (e : Option Inc). effects_by P node.0 e heads.Ended) mine) (λ x. refl) refl (λ a. refl)
      refl
  by-endpoint heads.Ended plain (Some j) mine ends answers =
      nodes.node-end shape P legal short k node home j mine
  by-endpoint _ plain None mine ends answers =
      absurd (true≢false (sym (ends.needs refl)))

  pub called-left : (head : Head) → restarted_node head ≡ None
      → KeepsEndpoints (endpoint_of P k) head → AnswersAs old (endpoint_of P k) head
      → IsCalled head
  called-left head plain ends answers =
      by-endpoint head plain (endpoint_of P k) refl ends answers

-- THE KERNELS of a checker
module _ (P : List Step) (t : Known) (left : AreLeft P t) where
  placed-at : (actors : List NodeNo) (n : ℕ)
      → AllByRecursion (IsNode (length t.kernels)) actors → n < length actors
      → IsNode (length t.kernels) (record { 0 = number_or_0 (slice_get actors n) })
  placed-at [] n all within = absurd (omega arith)
  placed-at (a ∷ actors) zero all within = all.0
  placed-at (a ∷ actors) (suc n) all within = placed-at actors n all.1 (omega arith)

  -- an actor's node is one of them
  pub home-node : (k : ℕ) → 0 < k → k ≤ length t.shape.actors
      → IsNode (length t.kernels) (record { 0 = node_by t.shape (Actor k) })
  home-node zero above within = absurd (omega arith)
  home-node (suc k) above within = placed-at t.shape.actors k left.laid_out.placed (omega arith)

  pub kernel-left : (n : ℕ) → 0 < n → n ≤ length t.kernels
      → kernel_of t.kernels n ≡ Some (node_left P (record { 0 = n }))
  kernel-left zero above within = absurd (omega arith)
  kernel-left (suc n) above within = left.kernels n (omega arith)

  -- and its kernel is what the history left of it
  pub maker-left : (k : ℕ) → 0 < k → k ≤ length t.shape.actors
      → kernel_of_maker t (Actor k) ≡ node_left P (record { 0 = node_by t.shape (Actor k) })
  maker-left k above within =
      let at = home-node k above within in
      ap kernel_or_empty (kernel-left (node_by t.shape (Actor k)) at.0 at.1)

  module _ (short : IsShort P) where
    -- a node that is none of them has no open endpoint
    nobody : (node : ℕ) → ((0 < node) × (node ≤ length t.kernels) → ⊥) → (xs : List Inc)
        → open_endpoints P node ≡ xs → xs ≡ []
    nobody node off [] is = refl
    nobody node off (i ∷ xs) is =
        let open_one : list_any (same_inc i) (open_endpoints P node) ≡ true =
        ap (list_any (same_inc i)) is
        ∙ or_left (same_inc i i) (list_any (same_inc i) xs) (same_inc-refl i) in
        let owner = owned t.shape P left.legal short node i open_one in
        let below : AllByRecursion (IsBelow P node) (i ∷ xs) =
        subst (AllByRecursion (IsBelow P node)) is (open-below t.shape P left.legal short node) in
        let here : node_of i ≡ node = eqb-true (node_of i) node below.0.0 in
        let his : node_of i ≡ node_by t.shape (Actor owner.0) =
        eqb-true (node_of i) (node_by t.shape (Actor owner.0))
        (endpoint-on t.shape P left.legal short owner.0 i owner.3) in
        let at = home-node owner.0 owner.1 owner.2 in
        absurd (off (subst (λ (n : ℕ). (0 < n) × (n ≤ length t.kernels)) (sym his ∙ here) at))

    pub open-none : (node : ℕ) → ((0 < node) × (node ≤ length t.kernels) → ⊥)
        → open_endpoints P node ≡ []
    open-none node off = nobody node off (open_endpoints P node) refl

    pub kernel-past : (node : ℕ) → ((0 < node) × (node ≤ length t.kernels) → ⊥)
        → kernel_of t.kernels node ≡ None
    kernel-past zero off = refl
    kernel-past (suc n) off =
        past-list t.kernels n (by_cases (nat_lt n (length t.kernels)) refl)
      where
        by_cases : (b : Bool) → nat_lt n (length t.kernels) ≡ b
            → length t.kernels ≤ n
        by_cases true is = absurd (off (
          omega arith,
          ltb-true n
              (length t.kernels) is,
        ))
        by_cases false is =
            ltb-false n (length t.kernels) is

    -- WHAT A RESTART CLOSES by the kernels
    pub closings-same : (n : ℕ)
        → restart_closings (kernel_of t.kernels n) ≡ closings (open_endpoints P n)
    closings-same zero =
        let none : open_endpoints P 0 ≡ [] = open-none 0 (λ at. let h : 0 < 0 = at.0 in omega arith) in
        ap closings (sym none)
    closings-same (suc n) = go (nat_lt n (length t.kernels)) refl
      where
        go : (b : Bool) → nat_lt n (length t.kernels) ≡ b
            → restart_closings (kernel_of t.kernels (suc n)) ≡ closings (open_endpoints P (suc n))
        go true is =
            let within : n < length t.kernels =
            ltb-true n (length t.kernels) is in
            ap restart_closings (kernel-left (suc n) (omega arith) (omega arith))
            ∙ ap closings (incs-left P (open_endpoints P (suc n)))
        go false is =
            let past : length t.kernels ≤ n =
            ltb-false n (length t.kernels) is in
            let off : (0 < suc n) × (suc n ≤ length t.kernels) → ⊥ =
            λ at. let h : suc n ≤ length t.kernels = at.1 in omega arith in
            ap restart_closings (kernel-past (suc n) off)
            ∙ ap closings (sym (open-none (suc n) off))
