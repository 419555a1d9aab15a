-- Where each side of a node does something, and where one link's trunk is another now: what holds
-- of the sides that do it, of those across the links, and of all others, holds of all sides.
use Rattle.std.proofs.Common.{◌≡◌, ℕ, Bool, true, false, cond, refl, sym, ◌∙◌, ap, subst, ◌==◌}
use Rattle.std.proofs.Common.{◌&&◌, eqb-true, eq-eqb}
use Rattle.linx_base.specs.Sides.{other_of}
use Rattle.linx_base.specs.declared.identity.LinkNo.{LinkNo}
use Rattle.linx_base.specs.declared.identity.Side.{Side}
use Rattle.linx_base.specs.declared.identity.Side.TheVariants.{First, Second}
use Rattle.journal.specs.Shapes.{Shape}
use Rattle.link_laws.specs.Ends.{HasTwoEnds, IsLinkOf, node_at}
use Rattle.link_laws.specs.Sides.{SideState}
use Rattle.link_laws.specs.Moves.{AllLeft, IsLeft, OthersLeft}
use Rattle.link_laws.specs.Sessions.{same_side}
use Rattle.trunk.specs.Events.{TrunkState}
use Rattle.trunk_moves.specs.Trunks.{Become, RunTrunks, all_do, does, links_of, side_if, state_of}
use Rattle.trunk_moves.specs.Trunks.{with_trunk}
use Rattle.trunk_moves.proofs.Calls.{left_itself}

both_ends : (m k n : ℕ) → (m == k) ≡ false → (m == n) ≡ true → (k == n) ≡ true → ⊥
both_ends m k n apart first second =
    let same : m ≡ k = eqb-true m n first ∙ sym (eqb-true k n second) in
    let is : (m == k) ≡ true = eq-eqb m k same in
    absurd cc

-- ---- each side of a node

module _ (shape : Shape) (two : HasTwoEnds shape) (n : ℕ) (act : Side → TrunkState → TrunkState)
    (before after : RunTrunks) (made : Become shape after (all_do shape n act before)) where
  abbrev is_on_node : LinkNo → Side → Bool
  is_on_node l side = node_at shape l side == n

  -- what holds of the trunks of links with a side on the node, and of those without one
  pub each_trunk : (T : LinkNo → TrunkState → Type 0)
      → ((l : LinkNo) → IsLinkOf shape l → (at : Side) → is_on_node l at ≡ true
      → T l (act at (before l.0)))
      → ((l : LinkNo) → IsLinkOf shape l → T l (before l.0)) → (l : LinkNo) → IsLinkOf shape l
      → T l (after l.0)
  each_trunk T doing staying l of_shape =
      subst (T l) (sym (made l of_shape))
      (by_ends (is_on_node l First) (is_on_node l Second) refl refl)
    where
      by_ends : (first second : Bool) → is_on_node l First ≡ first → is_on_node l Second ≡ second
          → T l (does (side_if first second) act (before l.0))
      by_ends true second is_first is_second = doing l of_shape First is_first
      by_ends false true is_first is_second = doing l of_shape Second is_second
      by_ends false false is_first is_second = staying l of_shape

  -- what holds of the sides on the node, of those across the link, and of all others
  pub each_side : (Q : LinkNo → Side → Bool → SideState → SideState → Type 0)
      → ((l : LinkNo) → IsLinkOf shape l → (at : Side) → is_on_node l at ≡ true
      → Q l at true (state_of at (before l.0)) (state_of at (act at (before l.0))))
      → ((l : LinkNo) → IsLinkOf shape l → (at : Side) → is_on_node l at ≡ true
      → is_on_node l (other_of at) ≡ false
      → Q l (other_of at) false (state_of (other_of at) (before l.0))
      (state_of (other_of at) (act at (before l.0))))
      → ((l : LinkNo) → IsLinkOf shape l → (at : Side) → is_on_node l at ≡ false
      → Q l at false (state_of at (before l.0)) (state_of at (before l.0)))
      → (l : LinkNo) → IsLinkOf shape l → (side : Side)
      → Q l side (is_on_node l side) (links_of before l.0 side) (links_of after l.0 side)
  each_side Q doing across staying l of_shape side =
      subst (λ (u : TrunkState). Q l side (is_on_node l side) (state_of side (before l.0))
      (state_of side u)) (sym (made l of_shape))
      (by_ends (is_on_node l First) (is_on_node l Second) refl refl side)
    where
      by_ends : (first second : Bool) → is_on_node l First ≡ first → is_on_node l Second ≡ second
          → (at : Side)
          → Q l at (is_on_node l at) (state_of at (before l.0))
          (state_of at (does (side_if first second) act (before l.0)))
      by_ends true true is_first is_second at =
          absurd (both_ends (node_at shape l First) (node_at shape l Second) n
          (two l of_shape First) is_first is_second)
      by_ends true false is_first is_second First =
          subst (λ (b : Bool). Q l First b (state_of First (before l.0))
          (state_of First (act First (before l.0)))) (sym is_first)
          (doing l of_shape First is_first)
      by_ends true false is_first is_second Second =
          subst (λ (b : Bool). Q l Second b (state_of Second (before l.0))
          (state_of Second (act First (before l.0)))) (sym is_second)
          (across l of_shape First is_first is_second)
      by_ends false true is_first is_second First =
          subst (λ (b : Bool). Q l First b (state_of First (before l.0))
          (state_of First (act Second (before l.0)))) (sym is_first)
          (across l of_shape Second is_second is_first)
      by_ends false true is_first is_second Second =
          subst (λ (b : Bool). Q l Second b (state_of Second (before l.0))
          (state_of Second (act Second (before l.0)))) (sym is_second)
          (doing l of_shape Second is_second)
      by_ends false false is_first is_second First =
          subst (λ (b : Bool). Q l First b (state_of First (before l.0))
          (state_of First (before l.0))) (sym is_first) (staying l of_shape First is_first)
      by_ends false false is_first is_second Second =
          subst (λ (b : Bool). Q l Second b (state_of Second (before l.0))
          (state_of Second (before l.0))) (sym is_second) (staying l of_shape Second is_second)

-- ---- trunks that stay

pub all_left : (shape : Shape) (before after : RunTrunks) → Become shape after before
    → AllLeft shape (links_of before) (links_of after)
all_left shape before after made l of_shape side =
    subst (λ (u : TrunkState). IsLeft (state_of side (before l.0)) (state_of side u))
    (sym (made l of_shape)) (left_itself side (before l.0))

pub trunks_stay : (shape : Shape) (before after : RunTrunks) → Become shape after before
    → (T : LinkNo → TrunkState → Type 0)
    → ((l : LinkNo) → IsLinkOf shape l → T l (before l.0))
    → (l : LinkNo) → IsLinkOf shape l → T l (after l.0)
trunks_stay shape before after made T was l of_shape =
    subst (T l) (sym (made l of_shape)) (was l of_shape)

-- ---- one link's trunk

module _ (shape : Shape) (before after : RunTrunks) (l : LinkNo) (of_shape : IsLinkOf shape l)
    (t : TrunkState) (made : Become shape after (with_trunk before l.0 t)) where
  pub is_trunk : after l.0 ≡ t
  is_trunk = made l of_shape
      ∙ ap (λ (b : Bool). cond b t (before l.0)) (eq-eqb l.0 l.0 refl)

  pub one_trunk : (T : LinkNo → TrunkState → Type 0) → T l t
      → ((h : LinkNo) → IsLinkOf shape h → T h (before h.0))
      → (h : LinkNo) → IsLinkOf shape h → T h (after h.0)
  one_trunk T here was h of_h =
      subst (T h) (sym (made h of_h)) (by_test (h.0 == l.0) refl)
    where
      by_test : (b : Bool) → (h.0 == l.0) ≡ b → T h (cond b t (before h.0))
      by_test true same =
          let is : h ≡ l = ap (λ (k : ℕ). let m : LinkNo = record { 0 = k } in m)
          (eqb-true h.0 l.0 same) in
          subst (λ (m : LinkNo). T m t) (sym is) here
      by_test false apart = was h of_h

  pub others_left : (at : Side)
      → IsLeft (state_of (other_of at) (before l.0)) (state_of (other_of at) t)
      → OthersLeft shape (links_of before) (links_of after) l at
  others_left at left h of_h side apart =
      subst (λ (u : TrunkState). IsLeft (state_of side (before h.0)) (state_of side u))
      (sym (made h of_h)) (by_test (h.0 == l.0) refl apart)
    where
      by_side : (s a : Side) → same_side a s ≡ false
          → IsLeft (state_of (other_of a) (before l.0)) (state_of (other_of a) t)
          → IsLeft (state_of s (before l.0)) (state_of s t)
      by_side First First other is = absurd cc
      by_side First Second other is = is
      by_side Second First other is = is
      by_side Second Second other is = absurd cc

      by_test : (b : Bool) → (h.0 == l.0) ≡ b → (b && same_side at side) ≡ false
          → IsLeft (state_of side (before h.0)) (state_of side (cond b t (before h.0)))
      by_test true same other =
          subst (λ (k : ℕ). IsLeft (state_of side (before k)) (state_of side t))
          (sym (eqb-true h.0 l.0 same)) (by_side side at other left)
      by_test false away other = left_itself side (before h.0)

  -- the other trunks are left, and this one on both sides
  pub both_left : ((side : Side) → IsLeft (state_of side (before l.0)) (state_of side t))
      → AllLeft shape (links_of before) (links_of after)
  both_left left h of_h side =
      subst (λ (u : TrunkState). IsLeft (state_of side (before h.0)) (state_of side u))
      (sym (made h of_h)) (by_test (h.0 == l.0) refl)
    where
      by_test : (b : Bool) → (h.0 == l.0) ≡ b
          → IsLeft (state_of side (before h.0)) (state_of side (cond b t (before h.0)))
      by_test true same =
          subst (λ (k : ℕ). IsLeft (state_of side (before k)) (state_of side t))
          (sym (eqb-true h.0 l.0 same)) (left side)
      by_test false away = left_itself side (before h.0)
