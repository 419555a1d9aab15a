-- One side of one link changes, and all others stay.
use Rattle.std.proofs.Common.{◌≡◌, ℕ, Bool, true, false, cond, ◌||◌, ◌&&◌, List, [], ◌∷◌, Option}
use Rattle.std.proofs.Common.{Some, None, map, refl, sym, ◌∙◌, ap, subst, arith, ◌/◌, ◌==◌}
use Rattle.std.proofs.Common.{if◌then◌else◌, true≢false, eqb-true}
use Rattle.std.specs.List.{list_any}
use Rattle.std.proofs.lemmas.Bool.Decides.{nat_tests}
use Rattle.linx_base.specs.Numbers.{is_on}
use Rattle.linx_base.specs.Sides.{other_of}
use Rattle.linx_base.specs.declared.identity.Inc.{Inc}
use Rattle.linx_base.specs.declared.identity.LinkNo.{LinkNo}
use Rattle.linx_base.specs.declared.identity.NodeNo.{NodeNo}
use Rattle.linx_base.specs.declared.identity.Peer.{Peer}
use Rattle.linx_base.specs.declared.identity.Peer.TheVariants.{There}
use Rattle.linx_base.specs.declared.identity.Session.{Session}
use Rattle.linx_base.specs.declared.identity.Side.{Side}
use Rattle.linx_base.specs.declared.identity.Side.TheVariants.{First, Second}
use Rattle.linx_base.specs.declared.name.Path.{Path}
use Rattle.linx_base.specs.declared.pending.PendingAttach.{PendingAttach}
use Rattle.linx_base.specs.declared.pending.PendingHunt.{PendingHunt}
use Rattle.linx_base.specs.declared.signal.Reason.{Reason}
use Rattle.trunk_record.specs.Records.{SideRecord}
use Rattle.trunk_record.specs.Sayings.{Given, met, asked_for, arrived, freed, gone}
use Rattle.journal.specs.Effects.{founds, notices, notice, found}
use Rattle.journal.specs.Shapes.{Shape}
use Rattle.journal.specs.declared.effect.Effect.{Effect}
use Rattle.journal.specs.declared.effect.Effect.TheVariants.{Arrived, Gone, Met}
use Rattle.journal.specs.declared.effect.Step.{Step}
use Rattle.journal.specs.declared.head.Head.{Head}
use Rattle.link_laws.specs.Came.{signal_over}
use Rattle.link_laws.specs.Ends.{node_at, IsLinkOf, HasTwoEnds}
use Rattle.link_laws.specs.Sides.{AllLinked, Links, SideState, Trunks}
use Rattle.link_laws.specs.Linked.{IsLinked}
use Rattle.link_laws.specs.Moves.{is_side}
use Rattle.link_laws.specs.Sessions.{same_side}
use Rattle.link_laws.proofs.Sides.Untouched.{touches}
use Rattle.link_laws.proofs.Sides.WordsAfterStep.{AreItems}
use Rattle.link_laws.proofs.Endpoints.OpenAfterStep.{both_true}

-- one side is another now
abbrev pub with_side : Trunks → ℕ → Side → SideRecord → Trunks
with_side trunks link side A k at =
    if k == link && same_side side at then A else trunks k at

-- one side is in another state now
abbrev pub with_state : Links → ℕ → Side → SideState → Links
with_state links link side C k at =
    if k == link && same_side side at then C else links k at

-- the effects that show what a node was given in a session of a link
abbrev pub shown_by : NodeNo → LinkNo → Session → Given → List Effect
shown_by n l x (met a name) = Met n (There l x a) name ∷ []
shown_by n l x (asked_for name) = []
shown_by n l x (arrived a b note) = Arrived b (There l x a) note ∷ []
shown_by n l x (freed a b note) = []
shown_by n l x (gone a) = Gone n (There l x a) ∷ []

-- an arrival is at an endpoint of the node
abbrev pub IsAt : ℕ → Given → Type 0
IsAt node (arrived a b note) = is_on node b ≡ true
IsAt node _ = Unit {0}

pub founds-items : (path : Path) (q : Peer) (hunts : List PendingHunt)
    → AreItems (founds path q hunts)
founds-items path q hunts = each _
  where
    each : (hs : List PendingHunt) → AreItems (map (found q) hs)
    each [] = tt
    each (h ∷ hs) = (refl, each hs)

pub notices-items : (reason : Reason) (ended : Peer → Bool) (attaches : List PendingAttach)
    → AreItems (notices reason ended attaches)
notices-items reason ended attaches = each _
  where
    each : (os : List PendingAttach) → AreItems (map (notice reason) os)
    each [] = tt
    each (o ∷ os) = (refl, each os)

-- no signal goes over a link by a head that is no send
pub no_signal : (n l : ℕ) (x : Session) (me : Option Inc) (head : Head)
    → ((j : Inc) → signal_over n l x (Some j) head ≡ []) → signal_over n l x me head ≡ []
no_signal n l x None head none = refl
no_signal n l x (Some j) head none = none j

pub same_side-is : (a b : Side) → same_side a b ≡ true → a ≡ b
same_side-is First First is = refl
same_side-is First Second is = absurd (true≢false (sym is))
same_side-is Second First is = absurd (true≢false (sym is))
same_side-is Second Second is = refl

pub same_side-itself : (a : Side) → same_side a a ≡ true
same_side-itself First = refl
same_side-itself Second = refl

-- the link of this number
pub same_link : (l h : LinkNo) → (h.0 == l.0) ≡ true → l ≡ h
same_link l h is = ap (λ (k : ℕ). let z : LinkNo = record { 0 = k } in z)
    (sym (eqb-true h.0 l.0 is))

-- what holds of a side holds of it under another name
pub at-side : (Holds : LinkNo → Side → Type 0) (l : LinkNo) (at : Side) (h : LinkNo) (side : Side)
    → is_side l at h side ≡ true → Holds l at → Holds h side
at-side Holds l at h side is it =
    let both = both_true (h.0 == l.0) (same_side at side) is in
    subst (λ (k : LinkNo). Holds k side) (same_link l h both.0)
    (subst (λ (a : Side). Holds l a) (same_side-is at side both.1) it)

pub other_side : (a b : Side) → same_side (other_of a) b ≡ false → a ≡ b
other_side First First is = refl
other_side First Second is = absurd (true≢false is)
other_side Second First is = absurd (true≢false is)
other_side Second Second is = refl

pub other_twice : (a : Side) → other_of (other_of a) ≡ a
other_twice First = refl
other_twice Second = refl

-- no side of a link of the shape is this one
abbrev pub IsElsewhere : Shape → LinkNo → Side → LinkNo → Side → Type 0
IsElsewhere shape l at h side =
    ((node_at shape l at == node_at shape h side) && (l.0 == h.0)) ≡ false

-- ONE SIDE CHANGES: what holds of it, and of each that isn't it, holds of all
pub one_side_of : (shape : Shape) (Holds : LinkNo → Side → SideRecord → Type 0) (trunks : Trunks)
    (l : LinkNo) (at : Side) (A : SideRecord) → HasTwoEnds shape → IsLinkOf shape l → Holds l at A
    → ((h : LinkNo) (side : Side) → IsLinkOf shape h → IsElsewhere shape l at h side
    → Holds h side (trunks h.0 side))
    → (h : LinkNo) → IsLinkOf shape h → (side : Side)
    → Holds h side (with_side trunks l.0 at A h.0 side)
one_side_of shape Holds trunks l at A two of_shape here elsewhere h of_h side =
    by_link (h.0 == l.0) refl
  where
    by_side : (u : Bool) → same_side at side ≡ u → Holds l side (cond u A (trunks l.0 side))
    by_side true e = subst (λ (k : Side). Holds l k A) (same_side-is at side e) here
    by_side false e =
        let same : other_of at ≡ side = other_side (other_of at) side
        (ap (λ k. same_side k side) (other_twice at) ∙ e) in
        let apart : (node_at shape l at == node_at shape l side) ≡ false =
        ap (λ k. node_at shape l at == node_at shape l k) (sym same) ∙ two l of_shape at in
        elsewhere l side of_shape (ap (λ t. t && (l.0 == l.0)) apart)

    by_link : (t : Bool) → (h.0 == l.0) ≡ t
        → Holds h side (cond (t && same_side at side) A (trunks h.0 side))
    by_link true e =
        subst (λ (k : LinkNo). Holds k side
        (cond (true && same_side at side) A (trunks k.0 side))) (same_link l h e)
        (by_side (same_side at side) refl)
    by_link false e = elsewhere h side of_h (no_link (node_at shape l at == node_at shape h side)
        (l.0 == h.0) (turned e))
      where
        turned : (h.0 == l.0) ≡ false → (l.0 == h.0) ≡ false
        turned f = grind (arith, nat_tests)

        no_link : (t u : Bool) → u ≡ false → (t && u) ≡ false
        no_link true u f = f
        no_link false u f = refl

-- so each side is linked
pub one_side : (shape : Shape) (Q : List Step) (trunks : Trunks) (l : LinkNo) (at : Side)
    (A : SideRecord) → HasTwoEnds shape → IsLinkOf shape l → IsLinked Q (node_at shape l at) l A
    → ((h : LinkNo) (side : Side) → IsLinkOf shape h → IsElsewhere shape l at h side
    → IsLinked Q (node_at shape h side) h (trunks h.0 side))
    → AllLinked shape Q (with_side trunks l.0 at A)
one_side shape Q trunks l at A two of_shape here elsewhere =
    one_side_of shape (λ h side B. IsLinked Q (node_at shape h side) h B) trunks l at A two of_shape
    here elsewhere

-- what a side is given touches no other side
pub shown-away : (n k : ℕ) (l h : LinkNo) (x : Session) (g : Given) → IsAt n g
    → ((n == k) && (l.0 == h.0)) ≡ false → list_any (touches k h.0)
    (shown_by (record { 0 = n }) l x g) ≡ false
shown-away n k l h x (met a name) at away = ap (λ t. t || false) away
shown-away n k l h x (asked_for name) at away = refl
shown-away n k l h x (arrived a b note) at away =
    let there : is_on k b ≡ (n == k) = ap (λ m. m == k) (eqb-true (b.0 / 4294967296) n at) in
    ap (λ t. (t && l.0 == h.0) || false) there ∙ ap (λ t. t || false) away
shown-away n k l h x (freed a b note) at away = refl
shown-away n k l h x (gone a) at away = ap (λ t. t || false) away
