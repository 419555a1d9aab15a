-- Where one side of one link changes, what is kept of it, and what was kept of all others, is kept
-- of all sides.
use Rattle.std.proofs.Common.{◌≡◌, ℕ, ◌≤◌, Bool, true, false, cond, ◌&&◌, List, ◌∷◌, refl, sym, ◌∙◌}
use Rattle.std.proofs.Common.{ap, subst, arith, ◌==◌, eq-eqb, true≢false}
use Rattle.std.specs.List.{list_any}
use Rattle.std.proofs.lemmas.Bool.Decides.{nat_tests}
use Rattle.linx_base.specs.Sides.{other_of}
use Rattle.linx_base.specs.declared.identity.LinkNo.{LinkNo}
use Rattle.linx_base.specs.declared.identity.Session.{Session}
use Rattle.linx_base.specs.declared.identity.Side.{Side}
use Rattle.linx_base.specs.declared.identity.Peer.TheVariants.{Here, There}
use Rattle.trunk_record.specs.Records.{SideRecord}
use Rattle.trunk_record.specs.Trunks.{IsHalf}
use Rattle.journal.specs.Shapes.{Shape}
use Rattle.journal.specs.declared.effect.Effect.{Effect}
use Rattle.journal.specs.declared.effect.Effect.TheVariants.{Arrived, Found, Gone, Met, Notified}
use Rattle.journal.specs.declared.effect.Effect.TheVariants.{Up}
use Rattle.journal.specs.declared.effect.Step.{Step}
use Rattle.link_laws.specs.Ends.{HasTwoEnds, IsLinkOf, node_at}
use Rattle.link_laws.specs.Sides.{AllHunted, AllLinked, AllPublishedOpen, AreLinksKept}
use Rattle.link_laws.specs.Sides.{Links, Trunks, records_of}
use Rattle.link_laws.specs.Moves.{AllLeft, OthersLeft, is_side}
use Rattle.link_laws.specs.Promises.{ups}
use Rattle.link_laws.specs.Sessions.{same_side, silent_ticks, tells_heard}
use Rattle.link_laws.proofs.AllLinks.SameSides.{AreAlike, all_left-same, hunted-alike, linked-alike}
use Rattle.link_laws.proofs.AllLinks.SameSides.{one-alike, one-same, opened-alike, trunks-alike}
use Rattle.link_laws.proofs.Sides.Untouched.{any-off, touches}
use Rattle.link_laws.proofs.Sides.WordsAfterStep.{IsDone, any-done, is_item}
use Rattle.link_laws.proofs.AllLinks.Pairs.{one_trunk}
use Rattle.link_laws.proofs.AllLinks.Publishings.{RaisesNone}
use Rattle.link_laws.proofs.AllLinks.OthersStay.{IsElsewhere, at-side, other_side, other_twice}
use Rattle.link_laws.proofs.AllLinks.OthersStay.{same_link, with_state, with_side, same_side-itself}
use Rattle.link_laws.proofs.Sides.Silence.{silence-other}

-- WHAT TOUCHES NOT a side neither tells it that it heard, nor takes it up
tells-off : (n l : ℕ) (e : Effect) → touches n l e ≡ false → tells_heard n l e ≡ false
tells-off n l (Up m k x y) away = away
tells-off n l (Met m (There k x i) name) away = away
tells-off n l (Gone m (There k x i)) away = away
tells-off n l (Arrived b (There k x i) note) away = away
tells-off n l (Met m (Here i) name) away = refl
tells-off n l (Gone m (Here i)) away = refl
tells-off n l (Arrived b (Here i) note) away = refl
tells-off n l _ away = refl

ups-off : (n l : ℕ) (x : Session) (e : Effect) → touches n l e ≡ false → ups n l x e ≡ false
ups-off n l x (Up m k z y) away = off (m.0 == n) (k.0 == l) away
  where
    off : (s t : Bool) → (s && t) ≡ false → (s && t && z.0 == x.0) ≡ false
    off true true e = absurd (true≢false e)
    off true false e = refl
    off false t e = refl
ups-off n l x _ away = refl

pub tells-items : (n l : ℕ) (e : Effect) → is_item e ≡ true → tells_heard n l e ≡ false
tells-items n l (Found i q note number) is = refl
tells-items n l (Notified i q note reference reason) is = refl
tells-items n l _ is = absurd (true≢false (sym is))

pub ups-items : (n l : ℕ) (x : Session) (e : Effect) → is_item e ≡ true → ups n l x e ≡ false
ups-items n l x (Found i q note number) is = refl
ups-items n l x (Notified i q note reference reason) is = refl
ups-items n l x _ is = absurd (true≢false (sym is))

pub tells-none : (s : Step) (es items : List Effect) → IsDone s es items → (n l : ℕ)
    → list_any (touches n l) es ≡ false → list_any (tells_heard n l) s.effects ≡ false
tells-none s es items done n l away = any-done (tells_heard n l) (tells-items n l) s es items done
    ∙ any-off (touches n l) (tells_heard n l) (tells-off n l) es away

pub raises-none : (s : Step) (es items : List Effect) → IsDone s es items
    → ((n l : ℕ) (x : Session) → list_any (ups n l x) es ≡ false) → RaisesNone s
raises-none s es items done none n l x = any-done (ups n l x) (ups-items n l x) s es items done
    ∙ none n l x

pub untouched-raises : (n l : ℕ) (x : Session) (es : List Effect)
    → list_any (touches n l) es ≡ false → list_any (ups n l x) es ≡ false
untouched-raises n l x es away = any-off (touches n l) (ups n l x) (ups-off n l x) es away

-- A SIDE THAT IS ANOTHER ONE is at another node, or on another link
pub elsewhere : (shape : Shape) (l : LinkNo) (at : Side) → HasTwoEnds shape → IsLinkOf shape l
    → (h : LinkNo) (side : Side) → is_side l at h side ≡ false → IsElsewhere shape l at h side
elsewhere shape l at two of_shape h side other = by_link (h.0 == l.0) refl
  where
    turned : (l.0 == h.0) ≡ (h.0 == l.0)
    turned = grind (arith, nat_tests)

    by_link : (t : Bool) → (h.0 == l.0) ≡ t → IsElsewhere shape l at h side
    by_link false e = and_false (node_at shape l at == node_at shape h side) (turned ∙ e)
      where
        and_false : (u : Bool) {t : Bool} → t ≡ false → (u && t) ≡ false
        and_false true f = f
        and_false false f = refl
    by_link true e =
        let apart : same_side at side ≡ false = sym (ap (λ t. t && same_side at side) e) ∙ other in
        let across : other_of at ≡ side = other_side (other_of at) side
        (ap (λ k. same_side k side) (other_twice at) ∙ apart) in
        subst (λ (k : LinkNo). IsElsewhere shape l at k side) (same_link l h e)
        (ap (λ t. t && (l.0 == l.0)) (ap (λ k. node_at shape l at == node_at shape l k) (sym across)
        ∙ two l of_shape at))

-- WHAT HOLDS OF ONE SIDE IN ONE RECORD, and then in another, with all others as they were
pub one_restated : (shape : Shape) (Holds : LinkNo → Side → SideRecord → Type 0) (trunks : Trunks)
    (l : LinkNo) (at : Side) (A B : SideRecord) → IsLinkOf shape l
    → ((h : LinkNo) → IsLinkOf shape h → (side : Side)
    → Holds h side (with_side trunks l.0 at A h.0 side))
    → (Holds l at A → Holds l at B)
    → (h : LinkNo) → IsLinkOf shape h → (side : Side)
    → Holds h side (with_side trunks l.0 at B h.0 side)
one_restated shape Holds trunks l at A B of_shape held restated h of_h side =
    by_side (is_side l at h side) refl
  where
    is : is_side l at l at ≡ true
    is = ap (λ t. t && same_side at at) (eq-eqb l.0 l.0 refl) ∙ same_side-itself at

    here : Holds l at B
    here = restated (subst (λ (t : Bool). Holds l at (cond t A (trunks l.0 at))) is
        (held l of_shape at))

    by_side : (t : Bool) → is_side l at h side ≡ t → Holds h side (cond t B (trunks h.0 side))
    by_side false e = subst (λ (t : Bool). Holds h side (cond t A (trunks h.0 side))) e
        (held h of_h side)
    by_side true e = at-side (λ k a. Holds k a B) l at h side e here

-- SILENCE of a side that was heard no longer ago, in a step that doesn't tell that it heard
pub silence-side : (P : List Step) (s : Step) (n l : ℕ) (side : Side) (was now : ℕ)
    → was ≤ silent_ticks P n l side → now ≤ was → list_any (tells_heard n l) s.effects ≡ false
    → now ≤ silent_ticks (s ∷ P) n l side
silence-side P s n l side was now under less quiet =
    silence-other P s n l side now (omega arith) quiet

-- ALL OF IT, where all sides but one are left
module _ (shape : Shape) (P : List Step) (s : Step) (before after : Links) (l : LinkNo) (at : Side)
    (two : HasTwoEnds shape) (of_shape : IsLinkOf shape l)
    (others : OthersLeft shape before after l at) (kept : AreLinksKept shape P before) where
  pub record IsOneKept (A : SideRecord) : Type 0 where
    pub made : (after l.0 at).side ≡ A
    pub near : IsHalf A (before l.0 (other_of at)).side
    pub far : IsHalf (before l.0 (other_of at)).side A
    pub linked : AllLinked shape (s ∷ P) (with_side (records_of before) l.0 at A)
    pub opened : AllPublishedOpen shape (s ∷ P) (with_side (records_of before) l.0 at A)
    pub hunted : AllHunted shape (s ∷ P) after
    pub silent : (after l.0 at).silent ≤ silent_ticks (s ∷ P) (node_at shape l at) l.0 at
    pub quiet : (h : LinkNo) (side : Side) → IsElsewhere shape l at h side
        → list_any (tells_heard (node_at shape h side) h.0) s.effects ≡ false

  -- hunts seen with the one side changed
  pub one_hunted : AllHunted shape (s ∷ P) (with_state before l.0 at (after l.0 at))
      → AllHunted shape (s ∷ P) after
  one_hunted hunted = hunted-alike shape (s ∷ P) (with_state before l.0 at (after l.0 at)) after
      (one-same shape before after l at others) hunted

  pub one_kept : (A : SideRecord) → IsOneKept A → AreLinksKept shape (s ∷ P) after
  one_kept A it = record {
    trunks = trunks-alike shape (with_side (records_of before) l.0 at A) (records_of after) alike
        (one_trunk shape (records_of before) l at A it.near it.far kept.trunks);
    linked = linked-alike shape (s ∷ P) (with_side (records_of before) l.0 at A) (records_of after)
        alike it.linked;
    opened = opened-alike shape (s ∷ P) (with_side (records_of before) l.0 at A) (records_of after)
        alike it.opened;
    hunted = it.hunted;
    silent = λ h of_h side. by_side h of_h side (is_side l at h side) refl;
  }
    where
      alike : AreAlike shape (with_side (records_of before) l.0 at A) (records_of after)
      alike = one-alike shape before after l at others A it.made

      by_side : (h : LinkNo) → IsLinkOf shape h → (side : Side) → (t : Bool)
          → is_side l at h side ≡ t
          → (after h.0 side).silent ≤ silent_ticks (s ∷ P) (node_at shape h side) h.0 side
      by_side h of_h side false e =
          silence-side P s (node_at shape h side) h.0 side (before h.0 side).silent
          (after h.0 side).silent (kept.silent h of_h side) (others h of_h side e).silent
          (it.quiet h side (elsewhere shape l at two of_shape h side e))
      by_side h of_h side true e =
          at-side (λ k a. (after k.0 a).silent ≤ silent_ticks (s ∷ P) (node_at shape k a) k.0 a) l
          at h side e it.silent

-- ALL OF IT, where all sides are left, in a step that tells no side that it heard
pub all_kept : (shape : Shape) (P : List Step) (s : Step) (before after : Links)
    → AllLeft shape before after → AreLinksKept shape P before
    → AllLinked shape (s ∷ P) (records_of before)
    → AllPublishedOpen shape (s ∷ P) (records_of before)
    → AllHunted shape (s ∷ P) before
    → ((n l : ℕ) → list_any (tells_heard n l) s.effects ≡ false)
    → AreLinksKept shape (s ∷ P) after
all_kept shape P s before after left kept linked opened hunted quiet = record {
  trunks = trunks-alike shape (records_of before) (records_of after) alike kept.trunks;
  linked = linked-alike shape (s ∷ P) (records_of before) (records_of after) alike linked;
  opened = opened-alike shape (s ∷ P) (records_of before) (records_of after) alike opened;
  hunted = hunted-alike shape (s ∷ P) before after (all_left-same shape before after left) hunted;
  silent = λ h of_h side.
      silence-side P s (node_at shape h side) h.0 side (before h.0 side).silent
      (after h.0 side).silent (kept.silent h of_h side) (left h of_h side).silent
      (quiet (node_at shape h side) h.0);
}
  where
    alike : AreAlike shape (records_of before) (records_of after)
    alike h of_h side = (left h of_h side).side
