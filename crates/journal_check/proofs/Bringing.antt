-- WHAT A PACKET OR A TICK BRINGS, by the tables: its effects, and the node after it, are those of the
-- history.
use Rattle.std.proofs.Common.{◌≡◌, ℕ, suc, ◌-◌, ◌<◌, ◌≤◌, List, [], ◌∷◌, length, Option, Some}
use Rattle.std.proofs.Common.{refl, sym, ◌∙◌, ap, subst, arith}
use Rattle.linx_base.specs.Sides.{other_of}
use Rattle.linx_base.specs.declared.identity.Inc.{Inc}
use Rattle.linx_base.specs.declared.identity.LinkNo.{LinkNo}
use Rattle.linx_base.specs.declared.identity.NodeNo.{NodeNo}
use Rattle.linx_base.specs.declared.identity.Peer.TheVariants.{Here, There}
use Rattle.linx_base.specs.declared.identity.Side.{Side}
use Rattle.journal.specs.History.{endpoint_by}
use Rattle.journal.specs.declared.by.By.{By}
use Rattle.journal.specs.declared.effect.Effect.{Effect}
use Rattle.journal.specs.declared.effect.Effect.TheVariants.{Arrived, Down, Gone, Met, Up}
use Rattle.journal.specs.declared.effect.Step.{Step}
use Rattle.journal.specs.declared.head.Head.{Head}
use Rattle.journal.specs.declared.head.Head.TheVariants.{Tick, Wire}
use Rattle.journal.proofs.Openings.{IsShort}
use Rattle.link_laws.specs.Brought.{Brought, arrives, brought_at, goes_down, goes_up, meets}
use Rattle.link_laws.specs.Brought.{nothing, parts}
use Rattle.link_laws.specs.Ends.{node_at}
use Rattle.link_laws.specs.Laws.{IsLegalStep}
use Rattle.node_kernel.specs.Nodes.{NodeState}
use Rattle.link_check.specs.Coming.{AreExact}
use Rattle.link_check.specs.Told.{IsThere}
use Rattle.fabric.specs.Brings.{after_brought}
use Rattle.fabric.specs.Remains.{AreNodesLeft, node_left}
use Rattle.fabric.proofs.AfterStep.LinkSteps.{IsIdle, idle-tick, idle-wire}
use Rattle.fabric.proofs.AfterStep.NodeAtALink.{node-brought}
use Rattle.fabric.proofs.AfterStep.OtherNodes.{changed_node, node_left-elsewhere, step-about}
use Rattle.journal_check.specs.Brought.{effects_brought, side_reached, told_by}
use Rattle.journal_check.specs.Tables.{AreLeft, Known, effects_there, kernel_there}
use Rattle.journal_check.specs.Tables.{kernels_brought, node_there}
use Rattle.journal_check.proofs.Books.{home-at, home-within, kernel-at}
use Rattle.journal_check.proofs.Lists.{set-left}

-- one value, where both are there
pub some-one : {X : Type 0} (x y : X) → (let o : Option X = Some x in o) ≡ Some y → x ≡ y
some-one x y is = cc is

-- THE EFFECTS by the kernel that the history leaves
effects-are : (P : List Step) (at : NodeNo) (l : LinkNo) (what : Brought)
    → effects_brought at (node_left P at) l what ≡ brought_at P at.0 l what
effects-are P at l nothing = refl
effects-are P at l (goes_up x y) = refl
effects-are P at l (goes_down x) = refl
effects-are P at l (arrives x a b note) = refl
effects-are P at l (meets x a name) = refl
effects-are P at l (parts x a) = refl

-- what they tell is what is read of them, where they are exact
module _ (P : List Step) (n : ℕ) (l : LinkNo) where
  abbrev AreOwn : List Effect → Type 0
  AreOwn es = es ≡ brought_at P n l (told_by es)

  own-exact : (es : List Effect) → AreOwn es → AreExact P n l es
  own-exact [] is = is
  own-exact (Up m k x y ∷ es) is = is
  own-exact (Down m k x ∷ es) is = is
  own-exact (Arrived b (There k x a) note ∷ es) is = is
  own-exact (Arrived b (Here i) note ∷ es) is = cc is
  own-exact (Met m (There k x a) name ∷ es) is = is
  own-exact (Met m (Here i) name ∷ es) is = cc is
  own-exact (Gone m (There k x a) ∷ es) is = is
  own-exact (Gone m (Here i) ∷ es) is = cc is
  own-exact (_ ∷ es) is = cc is

  exact-own : (es : List Effect) → AreExact P n l es → AreOwn es
  exact-own [] is = is
  exact-own (Up m k x y ∷ es) is = is
  exact-own (Down m k x ∷ es) is = is
  exact-own (Arrived b (There k x a) note ∷ es) is = is
  exact-own (Arrived b (Here i) note ∷ es) is = absurd is
  exact-own (Met m (There k x a) name ∷ es) is = is
  exact-own (Met m (Here i) name ∷ es) is = absurd is
  exact-own (Gone m (There k x a) ∷ es) is = is
  exact-own (Gone m (Here i) ∷ es) is = absurd is
  exact-own (_ ∷ es) is = absurd is

module _ (P : List Step) (t : Known) (left : AreLeft P t) (few : length P < 4294967294) (l : LinkNo)
    (there : IsThere t.book l) (side : Side) where
  abbrev home : NodeNo
  home = node_there t l side

  kernel : kernel_there t l side ≡ node_left P home
  kernel = kernel-at P t left few l there side

  at-home : node_at t.shape l side ≡ home.0
  at-home = home-at P t left few l there side

  effects-home : (es : List Effect)
      → effects_there t l side es ≡ brought_at P home.0 l (told_by es)
  effects-home es =
      ap (λ (n : NodeState). effects_brought home n l (told_by es)) kernel
      ∙ effects-are P home l (told_by es)

  -- EXACT by the tables is exact
  pub exact-kept : (es : List Effect) → es ≡ effects_there t l side es
      → AreExact P (node_at t.shape l side) l es
  exact-kept es is =
      subst (λ (n : ℕ). AreExact P n l es) (sym at-home)
      (own-exact P home.0 l es (is ∙ effects-home es))

  pub kept-exact : (es : List Effect) → AreExact P (node_at t.shape l side) l es
      → es ≡ effects_there t l side es
  kept-exact es is =
      exact-own P home.0 l es (subst (λ (n : ℕ). AreExact P n l es) at-home is)
      ∙ sym (effects-home es)

  -- THE KERNELS after it
  module _ (short : IsShort P) (by : By) (head : Head) (es : List Effect)
      (reached : side_reached head ≡ Some (l, side)) (exact : es ≡ effects_there t l side es) where
    abbrev s : Step
    s = record { by = by; head = head; effects = es }

    abbrev before : ℕ → NodeState
    before n = node_left P (record { 0 = n })

    abbrev after : ℕ → NodeState
    after n = node_left (s ∷ P) (record { 0 = n })

    idle-by : (node k : ℕ) (me : Option Inc) (head : Head) → side_reached head ≡ Some (l, side)
        → IsIdle node k me head
    idle-by node k me (Wire m from verdict) is = idle-wire node k me m from verdict
    idle-by node k me (Tick m at) is = idle-tick node k me m at
    idle-by node k me _ is = cc is

    changed-by : (head : Head) → side_reached head ≡ Some (l, side)
        → changed_node t.shape by head ≡ node_at t.shape l side
    changed-by (Wire m from verdict) is =
        ap (λ (p : LinkNo × Side). node_at t.shape p.0 p.1) (some-one (m, other_of from) (l, side) is)
    changed-by (Tick m at) is =
        ap (λ (p : LinkNo × Side). node_at t.shape p.0 p.1) (some-one (m, at) (l, side) is)
    changed-by _ is = cc is

    what-is : es ≡ brought_at P home.0 l (told_by es)
    what-is = exact ∙ effects-home es

    after-home : after_brought (kernel_there t l side) l (told_by es) (suc (length P))
        ≡ node_left (s ∷ P) home
    after-home =
        ap (λ (n : NodeState). after_brought n l (told_by es) (suc (length P))) kernel
        ∙ sym (node-brought P s home l
        (idle-by home.0 (suc (length P)) (endpoint_by P by) head reached) (told_by es) what-is)

    pub brought-next : IsLegalStep t.shape P s
        → AreNodesLeft (s ∷ P) (kernels_brought t (suc (length P)) l side es)
    brought-next step =
        let bounds = home-within P t left few l there side in
        let above : 0 < home.0 = bounds.0 in
        let under : home.0 ≤ length t.kernels = bounds.1 in
        let back : home.0 ≡ suc (home.0 - 1) = omega arith in
        let inside : home.0 - 1 < length t.kernels = omega arith in
        set-left before after t.kernels left.kernels (home.0 - 1)
        (λ n other.
        node_left-elsewhere t.shape P left.legal short s
        (step-about t.shape P left.legal short s step) (record { 0 = suc n })
        (λ same. other (
        let e : home.0 ≡ suc n = sym at-home ∙ sym (changed-by head reached) ∙ same in
        omega arith)))
        (after_brought (kernel_there t l side) l (told_by es) (suc (length P))) inside
        (after-home ∙ ap after back)
