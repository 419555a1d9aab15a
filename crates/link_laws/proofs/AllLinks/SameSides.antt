-- What is kept of the sides of links speaks of each side by itself: it holds of other functions
-- that have the same sides, as where all sides but one are left.
use Rattle.std.proofs.Common.{◌≡◌, ℕ, Bool, true, false, cond, refl, sym, ◌∙◌, subst, List}
use Rattle.linx_base.specs.Sides.{other_of}
use Rattle.linx_base.specs.declared.identity.LinkNo.{LinkNo}
use Rattle.linx_base.specs.declared.identity.Side.{Side}
use Rattle.trunk_record.specs.Records.{SideRecord}
use Rattle.trunk_record.specs.Trunks.{IsHalf}
use Rattle.journal.specs.Shapes.{Shape}
use Rattle.journal.specs.declared.effect.Step.{Step}
use Rattle.link_laws.specs.Ends.{IsLinkOf, node_at}
use Rattle.link_laws.specs.Sides.{AllHunted, AllLinked, AllPublishedOpen, AllTrunks, Links}
use Rattle.link_laws.specs.Sides.{SideState, Trunks, records_of}
use Rattle.link_laws.specs.Linked.{AreHunted, IsLinked}
use Rattle.link_laws.specs.Moves.{AllLeft, IsLeft, OthersLeft, is_side}
use Rattle.link_laws.specs.Promises.{ArePublishedOpen}
use Rattle.link_laws.proofs.AllLinks.OthersStay.{at-side, with_side, with_state}

-- the records are the same
abbrev pub AreAlike : Shape → Trunks → Trunks → Type 0
AreAlike shape trunks others = (l : LinkNo) → IsLinkOf shape l → (side : Side)
    → others l.0 side ≡ trunks l.0 side

pub trunks-alike : (shape : Shape) (trunks others : Trunks) → AreAlike shape trunks others
    → AllTrunks shape trunks → AllTrunks shape others
trunks-alike shape trunks others alike halves l of_shape side =
    subst (λ (A : SideRecord). IsHalf A (others l.0 (other_of side)))
    (sym (alike l of_shape side))
    (subst (λ (B : SideRecord). IsHalf (trunks l.0 side) B)
    (sym (alike l of_shape (other_of side))) (halves l of_shape side))

pub linked-alike : (shape : Shape) (P : List Step) (trunks others : Trunks)
    → AreAlike shape trunks others → AllLinked shape P trunks → AllLinked shape P others
linked-alike shape P trunks others alike linked l of_shape side =
    subst (λ (A : SideRecord). IsLinked P (node_at shape l side) l A)
    (sym (alike l of_shape side)) (linked l of_shape side)

pub opened-alike : (shape : Shape) (P : List Step) (trunks others : Trunks)
    → AreAlike shape trunks others → AllPublishedOpen shape P trunks
    → AllPublishedOpen shape P others
opened-alike shape P trunks others alike opened l of_shape side =
    subst (λ (A : SideRecord). ArePublishedOpen P (node_at shape l side) l A)
    (sym (alike l of_shape side)) (opened l of_shape side)

-- the sides and the notes are the same
pub record IsSame (before after : SideState) : Type 0 where
  pub side : after.side ≡ before.side
  pub noted : after.noted ≡ before.noted

abbrev pub AllSame : Shape → Links → Links → Type 0
AllSame shape links others = (l : LinkNo) → IsLinkOf shape l → (side : Side)
    → IsSame (links l.0 side) (others l.0 side)

pub left-same : (before after : SideState) → IsLeft before after → IsSame before after
left-same before after left = record { side = left.side; noted = left.noted }

pub all_left-same : (shape : Shape) (before after : Links) → AllLeft shape before after
    → AllSame shape before after
all_left-same shape before after left l of_shape side =
    left-same (before l.0 side) (after l.0 side) (left l of_shape side)

-- the hunts of a side, seen from states with the same sides and notes
pub hunts-alike : (P : List Step) (n m : ℕ) (l : LinkNo) (C D E F : SideState) → IsSame C E
    → IsSame D F → AreHunted P n m l C.side D.side D.noted → AreHunted P n m l E.side F.side F.noted
hunts-alike P n m l C D E F near far hunts =
    subst (λ (A : SideRecord). AreHunted P n m l A F.side F.noted) (sym near.side)
    (subst (λ (B : SideRecord). AreHunted P n m l C.side B F.noted) (sym far.side)
    (subst (λ (noted : List (List ℕ)). AreHunted P n m l C.side D.side noted) (sym far.noted)
    hunts))

pub hunted-alike : (shape : Shape) (P : List Step) (links others : Links)
    → AllSame shape links others → AllHunted shape P links → AllHunted shape P others
hunted-alike shape P links others same hunted l of_shape side =
    hunts-alike P (node_at shape l side) (node_at shape l (other_of side)) l (links l.0 side)
    (links l.0 (other_of side)) (others l.0 side) (others l.0 (other_of side))
    (same l of_shape side) (same l of_shape (other_of side)) (hunted l of_shape side)

-- WHERE ALL SIDES BUT ONE ARE LEFT, the links are those with one side changed
module _ (shape : Shape) (before after : Links) (l : LinkNo) (at : Side)
    (others : OthersLeft shape before after l at) where
  -- this side is that one
  here : {X : Type 0} (f : SideState → X) (h : LinkNo) (side : Side) → is_side l at h side ≡ true
      → f (after h.0 side) ≡ f (after l.0 at)
  here f h side is =
      at-side (λ k a. f (after k.0 a) ≡ f (after l.0 at)) l at h side is refl

  pub one-alike : (A : SideRecord) → (after l.0 at).side ≡ A
      → AreAlike shape (with_side (records_of before) l.0 at A) (records_of after)
  one-alike A made h of_h side = by_side (is_side l at h side) refl
    where
      by_side : (t : Bool) → is_side l at h side ≡ t
          → (after h.0 side).side ≡ cond t A (before h.0 side).side
      by_side true is = here (λ (C : SideState). C.side) h side is ∙ made
      by_side false is = (others h of_h side is).side

  pub one-same : AllSame shape (with_state before l.0 at (after l.0 at)) after
  one-same h of_h side = by_side (is_side l at h side) refl
    where
      by_side : (t : Bool) → is_side l at h side ≡ t
          → IsSame (cond t (after l.0 at) (before h.0 side)) (after h.0 side)
      by_side true is = record {
        side = here (λ (C : SideState). C.side) h side is;
        noted = here (λ (C : SideState). C.noted) h side is;
      }
      by_side false is = left-same (before h.0 side) (after h.0 side) (others h of_h side is)

  -- what holds of this side before and after, and of all that are left, holds of all
  pub one-each : (Holds : SideState → SideState → Type 0)
      → ((C D : SideState) → IsLeft C D → Holds C D) → Holds (before l.0 at) (after l.0 at)
      → (h : LinkNo) → IsLinkOf shape h → (side : Side) → Holds (before h.0 side) (after h.0 side)
  one-each Holds of_left it h of_h side = by_side (is_side l at h side) refl
    where
      by_side : (t : Bool) → is_side l at h side ≡ t → Holds (before h.0 side) (after h.0 side)
      by_side false is = of_left (before h.0 side) (after h.0 side) (others h of_h side is)
      by_side true is = at-side (λ k a. Holds (before k.0 a) (after k.0 a)) l at h side is it
