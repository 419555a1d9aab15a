-- What arrives is the front of what was sent; and whoever is notified of a close has all that the
-- peer sent, and gets no more of it.
use Rattle.std.proofs.Common.{◌≡◌, ℕ, Bool, true, false, cond, ◌&&◌, ◌⊎◌, inl, inr, List, [], ◌∷◌}
use Rattle.std.proofs.Common.{◌++◌, Option, Some, None, refl, sym, ◌∙◌, ap, subst, filter_map}
use Rattle.std.proofs.Common.{eqb-true, true≢false}
use Rattle.std.specs.List.{list_any, AllByRecursion}
use Rattle.std.proofs.lemmas.Bool.{false_from_ne_true, or_cases, or_left, or_right}
use Rattle.std.proofs.lemmas.List.Folds.{list_any-append}
use Rattle.linx_base.specs.Numbers.{node_of}
use Rattle.linx_base.specs.Peers.{same_inc, same_peer}
use Rattle.linx_base.specs.declared.identity.Inc.{Inc}
use Rattle.linx_base.specs.declared.identity.LinkNo.{LinkNo}
use Rattle.linx_base.specs.declared.identity.Peer.{Peer}
use Rattle.linx_base.specs.declared.identity.Peer.TheVariants.{Here, There}
use Rattle.linx_base.specs.declared.identity.Session.{Session}
use Rattle.linx_base.specs.declared.signal.Reason.TheVariants as reasons
use Rattle.linx_base.specs.SigNotes.{SigNote}
use Rattle.journal.specs.History.{closes, effects_of}
use Rattle.journal.specs.Promises.{IsFromLiving}
use Rattle.journal.specs.Shapes.{Shape, node_by}
use Rattle.journal.specs.Traffic.{arrival_in, arrived_from, sent_to}
use Rattle.journal.specs.declared.effect.Effect.{Effect}
use Rattle.journal.specs.declared.effect.Effect.TheVariants.{Arrived, Notified}
use Rattle.journal.specs.declared.effect.Step.{Step}
use Rattle.journal.proofs.Lists.{all-append}
use Rattle.journal.proofs.Openings.{IsShort, same_inc-true}
use Rattle.link_laws.specs.Ends.{node_at}
use Rattle.link_laws.specs.Laws.{IsLegal}
use Rattle.link_laws.specs.NotifiedCloses.{AllToldWhole, IsOfUntold, IsToldWhole, NeverAfterTold}
use Rattle.link_laws.specs.NotifiedCloses.{notifies_close, was_told_closed}
use Rattle.link_laws.specs.Promises.{AllCarried, AllGotFronts, GotFront, GotFrontOf, parts_peer}
use Rattle.link_laws.specs.Sessions.{paired_session}
use Rattle.link_laws.proofs.Sides.Untouched.{same_peer-is}
use Rattle.link_laws.proofs.Peers.AttachesBetweenLiving.{between_living}
use Rattle.link_laws.proofs.Endpoints.Closings.{open-unclosed}
use Rattle.link_laws.proofs.Promises.OneNode.{keeps-node_promises}
use Rattle.link_laws.proofs.Promises.NotifiedCloses.{EndsPeer, IsAcross, IsSound, all-sound}
use Rattle.link_laws.proofs.Endpoints.OpenAfterStep.{both_true}
use Rattle.link_laws.proofs.Hunts.UnfoundPeers.{all-both}

-- what is known of a history
pub record IsSoFar (shape : Shape) (P : List Step) : Type 0 where
  pub legal : IsLegal shape P
  pub short : IsShort P
  pub carried : AllCarried shape P

-- and of each front of it
abbrev pub EachIsSoFar : Shape → List Step → Type 0
EachIsSoFar shape [] = IsSoFar shape []
EachIsSoFar shape (s ∷ P) = IsSoFar shape (s ∷ P) × EachIsSoFar shape P

so-now : (shape : Shape) (P : List Step) → EachIsSoFar shape P → IsSoFar shape P
so-now shape [] each = each
so-now shape (s ∷ P) each = each.0

-- in each step
step-sound : (shape : Shape) (P : List Step) (s : Step) → EachIsSoFar shape (s ∷ P)
    → AllByRecursion (IsSound shape P s) s.effects
step-sound shape P s each =
    let before : IsSoFar shape P = so-now shape P each.1 in
    let nodes = keeps-node_promises shape (s ∷ P) each.0.legal each.0.short in
    all-sound shape P s nodes.arrived before.carried each.0.carried
    (between_living shape P before.legal before.short) each.0.legal.1

-- ---- fronts of what was sent

peer-is : (p q : Peer) → same_peer p q ≡ true → p ≡ q
peer-is (Here i) (Here j) same = ap Here (same_inc-true i j same)
peer-is (Here i) (There l x a) same = absurd (true≢false (sym same))
peer-is (There l x a) q same = sym (same_peer-is l x a q same)

-- what arrives over a link comes from its other side
abbrev IsFromAcross : Shape → Effect → Type 0
IsFromAcross shape (Arrived b (There l x a) note) = IsAcross shape l a b
IsFromAcross shape _ = Unit {0}

from-across : (shape : Shape) (P : List Step) (s : Step) (e : Effect) → IsSound shape P s e
    → IsFromAcross shape e
from-across shape P s (Arrived b (There l x a) note) sound = sound.0
from-across shape P s _ sound = tt

all-across : (shape : Shape) (P : List Step) → EachIsSoFar shape P
    → AllByRecursion (IsFromAcross shape) (effects_of P)
all-across shape [] each = tt
all-across shape (s ∷ P) each =
    let sound = step-sound shape P s each in
    all-append (IsFromAcross shape) (effects_of P) s.effects (all-across shape P each.1)
    (all-both (IsSound shape P s) (IsSound shape P s) (IsFromAcross shape)
    (λ e is again. from-across shape P s e is) s.effects sound sound)

module _ (shape : Shape) (j : Inc) (l : LinkNo) (x : Session) (i : Inc) where
  abbrev q : Peer
  q = There l x i

  one-across : (e : Effect) (note : SigNote) → IsFromAcross shape e → arrival_in j q e ≡ Some note
      → IsAcross shape l i j
  one-across (Arrived k p n) note from is = by_test (same_inc k j && same_peer p q) refl is
    where
      by_test : (t : Bool) → (same_inc k j && same_peer p q) ≡ t → cond t (Some n) None ≡ Some note
          → IsAcross shape l i j
      by_test true same is =
          let both = both_true (same_inc k j) (same_peer p q) same in
          subst (IsAcross shape l i) (same_inc-true k j both.0)
          (subst (λ (r : Peer). IsFromAcross shape (Arrived k r n)) (peer-is p q both.1) from)
      by_test false same is = cc
  one-across _ note from is = cc

  -- nothing arrived, or it came from across
  came-across : (es : List Effect) → AllByRecursion (IsFromAcross shape) es
      → (filter_map (arrival_in j q) es ≡ []) ⊎ IsAcross shape l i j
  came-across [] all = inl refl
  came-across (e ∷ es) all = by_head (arrival_in j q e) refl (came-across es all.1)
    where
      by_head : (o : Option SigNote) → arrival_in j q e ≡ o
          → (filter_map (arrival_in j q) es ≡ []) ⊎ IsAcross shape l i j
          → (filter_map (arrival_in j q) (e ∷ es) ≡ []) ⊎ IsAcross shape l i j
      by_head None is (inl none) = inl (rw is none)
      by_head None is (inr across) = inr across
      by_head (Some note) is rest = inr (one-across e note all.0 is)

  got-none : (P : List Step) (o : Option Session) → arrived_from P j q ≡ []
      → GotFront P l x i j o
  got-none P None none = none
  got-none P (Some y) none =
      let sent : List SigNote = sent_to P i (There l y j) in
      (sent, ap (λ (notes : List SigNote). notes ++ sent) (sym none))

  got-front : (P : List Step) → EachIsSoFar shape P → GotFrontOf P j q
  got-front P each =
      elim (came-across (effects_of P) (all-across shape P each)) [
        | inl none ↦ got-none P (paired_session P (node_of j) l.0 x) none
        | inr across ↦
            subst (λ (n : ℕ). GotFront P l x i j (paired_session P n l.0 x))
            (sym (eqb-true (node_of j) (node_at shape l across.side) across.receiver))
            (((so-now shape P each).carried l across.of_shape across.side).fronts x i j
            across.sender across.receiver)
      ]

pub all_got_fronts : (shape : Shape) (P : List Step) → EachIsSoFar shape P → AllGotFronts P
all_got_fronts shape P each j (Here i) =
    let now : IsSoFar shape P = so-now shape P each in
    (keeps-node_promises shape P now.legal now.short).arrived i j
all_got_fronts shape P each j (There l x i) = got-front shape j l x i P each

-- ---- all that the peer sent

told-whole : (shape : Shape) (P : List Step) (s : Step) (e : Effect) → IsSound shape P s e → IsToldWhole (s ∷ P) e
told-whole shape P s (Notified j q note reference reasons.Closed) sound = sound.whole
told-whole shape P s _ sound = tt

pub all_told_whole : (shape : Shape) (P : List Step) → EachIsSoFar shape P → AllToldWhole P
all_told_whole shape [] each = tt
all_told_whole shape (s ∷ P) each =
    let sound = step-sound shape P s each in (
      all_told_whole shape P each.1,
      all-both (IsSound shape P s) (IsSound shape P s) (IsToldWhole (s ∷ P))
          (λ e is again. told-whole shape P s e is) s.effects sound sound,
    )

-- ---- and no more

-- an effect of which something holds
any-of : {X : Type 0} (F : X → Type 0) (p : X → Bool) (C : Type 0)
    → ((x : X) → F x → p x ≡ true → C) → (xs : List X) → AllByRecursion F xs
    → list_any p xs ≡ true → C
any-of F p C each [] all is = absurd (true≢false (sym is))
any-of F p C each (x ∷ xs) all is =
    elim (or_cases (p x) (list_any p xs) is) [
      | inl now ↦ each x all.0 now
      | inr later ↦ any-of F p C each xs all.1 later
    ]

-- who closes or goes has done so after more effects
any-more : (p : Effect → Bool) (es fs : List Effect)
    → (list_any p es ≡ true) ⊎ (list_any p fs ≡ true) → list_any p (es ++ fs) ≡ true
any-more p es fs (inl is) = list_any-append p es fs ∙ or_left (list_any p es) _ is
any-more p es fs (inr is) = list_any-append p es fs ∙ or_right (list_any p es) _ is

ends-more : (es fs : List Effect) (j : Inc) (q : Peer) → EndsPeer es j q ⊎ EndsPeer fs j q
    → EndsPeer (es ++ fs) j q
ends-more es fs j (Here i) is = any-more (closes i) es fs is
ends-more es fs j (There l x i) is = any-more (parts_peer (node_of j) (There l x i)) es fs is

-- a close that an effect notifies is there
told-ends : (shape : Shape) (P : List Step) (s : Step) (j : Inc) (q : Peer) (e : Effect) → IsSound shape P s e
    → notifies_close j q e ≡ true → EndsPeer s.effects j q
told-ends shape P s j q (Notified i p note reference reasons.Closed) sound is =
    let both = both_true (same_inc i j) (same_peer p q) is in
    subst (EndsPeer s.effects j) (peer-is p q both.1)
    (subst (λ (k : Inc). EndsPeer s.effects k p) (same_inc-true i j both.0) sound.ends)
told-ends shape P s j q _ sound is = absurd (true≢false (sym is))

-- WHO WAS TOLD OF A CLOSE has it behind
told-ended : (shape : Shape) (P : List Step) → EachIsSoFar shape P → (j : Inc) (q : Peer)
    → was_told_closed P j q ≡ true → EndsPeer (effects_of P) j q
told-ended shape [] each j q is = absurd (true≢false (sym is))
told-ended shape (s ∷ P) each j q is =
    ends-more (effects_of P) s.effects j q
    (elim (or_cases (was_told_closed P j q) (list_any (notifies_close j q) s.effects)
    (sym (list_any-append (notifies_close j q) (effects_of P) s.effects) ∙ is)) [
      | inl was ↦ inl (told-ended shape P each.1 j q was)
      | inr now ↦ inr (any-of (IsSound shape P s) (notifies_close j q) (EndsPeer s.effects j q)
          (told-ends shape P s j q) s.effects (step-sound shape P s each) now)
    ])

-- what arrives
of-untold : (shape : Shape) (P : List Step) (s : Step) → EachIsSoFar shape P → (node : ℕ)
    (e : Effect) → IsSound shape P s e → IsFromLiving P node e → IsOfUntold P e
of-untold shape P s each node (Arrived j (Here i) note) sound living =
    let now : IsSoFar shape P = so-now shape P each in
    false_from_ne_true (was_told_closed P j (Here i)) (λ told.
    true≢false (sym (told-ended shape P each j (Here i) told)
    ∙ open-unclosed shape P now.legal now.short node i living))
of-untold shape P s each node (Arrived j (There l x a) note) sound living =
    false_from_ne_true (was_told_closed P j (There l x a)) (λ told.
    true≢false (sym (told-ended shape P each j (There l x a) told) ∙ sound.1))
of-untold shape P s each node _ sound living = tt

pub never_after_told : (shape : Shape) (P : List Step) → EachIsSoFar shape P → NeverAfterTold P
never_after_told shape [] each = tt
never_after_told shape (s ∷ P) each =
    let nodes = keeps-node_promises shape (s ∷ P) each.0.legal each.0.short in (
      never_after_told shape P each.1,
      all-both (IsSound shape P s) (IsFromLiving P (node_by shape s.by)) (IsOfUntold P)
          (of-untold shape P s each.1 (node_by shape s.by)) s.effects (step-sound shape P s each)
          nodes.living.1,
    )
