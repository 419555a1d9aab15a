-- What a step leaves of its node is what the kernel's call for it leaves: steps that only bring
-- items.
use Rattle.std.proofs.Common.{◌≡◌, ℕ, ◌<◌, Bool, true, false, cond, not, List, [], ◌∷◌, ◌++◌}
use Rattle.std.proofs.Common.{filter, Option, Some, None, refl, ◌∙◌, ap, arith, ◌==◌, append-nil}
use Rattle.std.specs.List.{AllByRecursion}
use Rattle.std.proofs.lemmas.Bool.Decides.{nat_tests}
use Rattle.linx_base.specs.Numbers.{is_on}
use Rattle.linx_base.specs.declared.identity.Inc.{Inc}
use Rattle.linx_base.specs.declared.identity.Peer.{Peer}
use Rattle.linx_base.specs.declared.name.Path.{Path}
use Rattle.linx_base.specs.declared.pending.PendingAttach.{PendingAttach}
use Rattle.linx_base.specs.declared.pending.PendingHunt.{PendingHunt}
use Rattle.linx_base.specs.SigNotes.{SigNote}
use Rattle.journal.specs.declared.effect.Effect.{Effect}
use Rattle.journal.specs.declared.head.Head.{Head}
use Rattle.journal.specs.declared.head.Head.TheVariants.{Send, Hunt, Attach}
use Rattle.journal.specs.declared.head.SentTo.{SentTo}
use Rattle.journal.specs.Effects.{arrivals_of, attached, found, hunted, notice}
use Rattle.journal.specs.Pending.{attach_in, detaches, ends_hunt, hunt_in, hunts_past, owed_past}
use Rattle.journal.specs.Pending.{ends_attach}
use Rattle.journal.proofs.Lists.{filter-all, all-impl}
use Rattle.journal.proofs.Openings.{same_inc-refl}
use Rattle.node_kernel.specs.Nodes.{NodeState, find_at, is_living}
use Rattle.node_kernel.specs.Calls.{after_attach, after_hunt, after_send, with_attach, with_hunt}
use Rattle.fabric.proofs.AfterStep.Effects.{OnlyItems, arrivals-answer_none, arrivals-notify_none}
use Rattle.fabric.proofs.AfterStep.Effects.{attached-answer_none, hunted-notify_none, leaves-none}
use Rattle.fabric.proofs.AfterStep.Effects.{leaves_open, only-arrivals, only-attached, only-hunted}
use Rattle.fabric.proofs.AfterStep.Tables.{after_step}
use Rattle.fabric.proofs.AfterStep.EndpointsStay.{TakesNone, endpoints-put, hunts-kept}
use Rattle.fabric.proofs.AfterStep.EndpointsStay.{openings-kept, owed-kept, put-none}
use Rattle.fabric.proofs.AfterStep.EndpointsStay.{state_by_parts}

-- a step that does nothing to its node
pub quiet-left : (k : ℕ) (me : Option Inc) (head : Head) (old : NodeState) → TakesNone head
    → hunt_in old.node.0 k me head ≡ [] → ((a : PendingAttach) → detaches me head a ≡ false)
    → attach_in old.node.0 k me head ≡ [] → after_step k me head [] old ≡ old
quiet-left k me head old takes hunts cancels attaches =
    let node : ℕ = old.node.0 in
    state_by_parts old.node _ _ _ _ _ _ _ _ _ _
    (openings-kept node k me head [] leaves-none old.openings)
    (endpoints-put node k me head [] leaves-none old.endpoints takes ∙ put-none k old.endpoints)
    (hunts-kept node k me head [] leaves-none old.hunts (λ n. refl) hunts)
    (owed-kept node k me head [] leaves-none old.attaches (λ r. refl) cancels attaches)
    refl

-- a send
pub send-left : (k : ℕ) (j : Inc) (q : Peer) (note : SigNote) (answer : SentTo) (old : NodeState)
    → after_step k (Some j) (Send q note answer) (arrivals_of j note (is_living old q) q) old
    ≡ after_send old j q note k
send-left k j q note answer old =
    let node : ℕ = old.node.0 in
    let alive : Bool = is_living old q in
    let es : List Effect = arrivals_of j note alive q in
    let head : Head = Send q note answer in
    let only : OnlyItems es = only-arrivals j note alive q in
    state_by_parts old.node _ _ _ _ _ _ _ _ _ _
    (openings-kept node k (Some j) head es (leaves_open only) old.openings)
    (endpoints-put node k (Some j) head es (leaves_open only) old.endpoints (λ x. refl))
    (hunts-kept node k (Some j) head es (leaves_open only) old.hunts
    (arrivals-answer_none j note alive q) refl)
    (owed-kept node k (Some j) head es (leaves_open only) old.attaches
    (arrivals-notify_none j note alive q)
    (λ a. refl) refl)
    (only.meets_none node old.met)

-- numbers of other steps
number-other : (n k : ℕ) → n < k → (k == n) ≡ false
number-other n k low = grind (arith, nat_tests)

number-same : (k : ℕ) → (k == k) ≡ true
number-same k = grind (arith, nat_tests)

filter-append : {X : Type 0} (p : X → Bool) (xs : List X) (y : X) (b : Bool)
    → filter p xs ≡ xs → p y ≡ b → filter p (xs ++ y ∷ []) ≡ xs ++ cond b (y ∷ []) []
filter-append {X = X} p xs y b all last = appended xs y b last
    ∙ ap (λ l. l ++ cond b (y ∷ []) []) all
  where
    appended : (zs : List X) (y : X) (b : Bool) → p y ≡ b
        → filter p (zs ++ y ∷ []) ≡ filter p zs ++ cond b (y ∷ []) []
    appended [] y b is = rw is refl
    appended (z ∷ zs) y b is =
        elim (p z) as (λ c. cond c (z ∷ filter p (zs ++ y ∷ [])) (filter p (zs ++ y ∷ []))
        ≡ cond c (z ∷ filter p zs) (filter p zs) ++ cond b (y ∷ []) []) [
          | true ↦ ap (λ l. z ∷ l) (appended zs y b is)
          | false ↦ appended zs y b is
        ]

-- a hunt
module _ (k : ℕ) (j : Inc) (path : Path) (note : SigNote) (old : NodeState)
    (mine : is_on old.node.0 j ≡ true)
    (below : AllByRecursion (λ h. h.number < k) old.hunts) where
  abbrev the_hunt : PendingHunt
  the_hunt = record { at = j; path = path; signal = note; number = k }

  hunt_begun : hunt_in old.node.0 k (Some j) (Hunt path note) ≡ the_hunt ∷ []
  hunt_begun = rw mine refl

  -- an answer at once ends the new hunt, and no other
  hunts_with : (q : Option Peer)
      → hunts_past old.node.0 k (Some j) (Hunt path note) (hunted q the_hunt) old.hunts
      ≡ with_hunt q the_hunt old.hunts
  hunts_with None =
      ap (λ l. filter (λ h. not (ends_hunt [] h)) (old.hunts ++ l)) hunt_begun
      ∙ filter-append (λ h. not (ends_hunt [] h)) old.hunts the_hunt true
      (filter-all (λ h. not (ends_hunt [] h)) old.hunts
      (all-impl (λ h. h.number < k) (λ h. not (ends_hunt [] h) ≡ true) (λ h low. refl) old.hunts
      below)) refl
  hunts_with (Some q) =
      let es : List Effect = found q the_hunt ∷ [] in
      ap (λ l. filter (λ h. not (ends_hunt es h)) (old.hunts ++ l)) hunt_begun
      ∙ filter-append (λ h. not (ends_hunt es h)) old.hunts the_hunt false
      (filter-all (λ h. not (ends_hunt es h)) old.hunts
      (all-impl (λ h. h.number < k) (λ h. not (ends_hunt es h) ≡ true)
      (λ h low. rw (number-other h.number k low) refl) old.hunts below))
      (rw (number-same k, same_inc-refl j) refl)
      ∙ append-nil old.hunts

  pub hunt-left : after_step k (Some j) (Hunt path note) (hunted (find_at old path) the_hunt) old
      ≡ after_hunt old the_hunt
  hunt-left =
      let node : ℕ = old.node.0 in
      let q : Option Peer = find_at old path in
      let es : List Effect = hunted q the_hunt in
      let head : Head = Hunt path note in
      let only : OnlyItems es = only-hunted q the_hunt in
      state_by_parts old.node _ _ _ _ _ _ _ _ _ _
      (openings-kept node k (Some j) head es (leaves_open only) old.openings)
      (endpoints-put node k (Some j) head es (leaves_open only) old.endpoints (λ x. refl))
      (hunts_with q)
      (owed-kept node k (Some j) head es (leaves_open only) old.attaches
      (hunted-notify_none q the_hunt)
      (λ a. refl) refl)
      (only.meets_none node old.met)

-- an attach
module _ (k : ℕ) (j : Inc) (q : Peer) (note : SigNote) (old : NodeState)
    (mine : is_on old.node.0 j ≡ true)
    (below : AllByRecursion (λ a. a.reference.0 < k) old.attaches) where
  abbrev the_attach : PendingAttach
  the_attach = record { at = j; peer = q; signal = note; reference = record { 0 = k } }

  attach_begun : attach_in old.node.0 k (Some j) (Attach q note) ≡ the_attach ∷ []
  attach_begun = rw mine refl

  owed_with : (alive : Bool)
      → owed_past old.node.0 k (Some j) (Attach q note) (attached alive the_attach) old.attaches
      ≡ with_attach alive the_attach old.attaches
  owed_with true =
      let p : PendingAttach → Bool = λ a. not (ends_attach (Some j) (Attach q note) [] a) in
      ap (λ l. filter p (old.attaches ++ l)) attach_begun
      ∙ filter-append p old.attaches the_attach true (filter-all p old.attaches
      (all-impl (λ a. a.reference.0 < k) (λ a. p a ≡ true) (λ a low. refl) old.attaches below)) refl
  owed_with false =
      let es : List Effect = notice Rattle.linx_base.specs.declared.signal.Reason.TheVariants.Dead
      the_attach ∷ [] in
      let p : PendingAttach → Bool = λ a. not (ends_attach (Some j) (Attach q note) es a) in
      ap (λ l. filter p (old.attaches ++ l)) attach_begun
      ∙ filter-append p old.attaches the_attach false
      (filter-all p old.attaches
      (all-impl (λ a. a.reference.0 < k) (λ a. p a ≡ true)
      (λ a low. rw (number-other a.reference.0 k low) refl) old.attaches below))
      (rw (number-same k, same_inc-refl j) refl)
      ∙ append-nil old.attaches

  pub attach-left : after_step k (Some j) (Attach q note) (attached (is_living old q) the_attach)
      old
      ≡ after_attach old the_attach
  attach-left =
      let node : ℕ = old.node.0 in
      let alive : Bool = is_living old q in
      let es : List Effect = attached alive the_attach in
      let head : Head = Attach q note in
      let only : OnlyItems es = only-attached alive the_attach in
      state_by_parts old.node _ _ _ _ _ _ _ _ _ _
      (openings-kept node k (Some j) head es (leaves_open only) old.openings)
      (endpoints-put node k (Some j) head es (leaves_open only) old.endpoints (λ x. refl))
      (hunts-kept node k (Some j) head es (leaves_open only) old.hunts
      (attached-answer_none alive the_attach)
      refl)
      (owed_with alive)
      (only.meets_none node old.met)
