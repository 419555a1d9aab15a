-- Where pending hunts stand, on every side of every link, after each kind of step.
use Rattle.std.proofs.Common.{◌≡◌, ℕ, suc, Bool, true, false, cond, not, ◌&&◌, inl, inr, List, []}
use Rattle.std.proofs.Common.{◌∷◌, ◌++◌, length, map, refl, sym, ◌∙◌, ap, subst, append_assoc, ◌==◌}
use Rattle.std.proofs.Common.{filter, filter_map, bytes_eq, true≢false}
use Rattle.std.specs.List.{list_any}
use Rattle.std.proofs.lemmas.Bool.{or_cases}
use Rattle.std.proofs.lemmas.List.Folds.{list_any-append}
use Rattle.linx_base.specs.Numbers.{is_on}
use Rattle.linx_base.specs.Peers.{same_inc}
use Rattle.linx_base.specs.Pending.{is_for}
use Rattle.linx_base.specs.Sides.{other_of}
use Rattle.linx_base.specs.declared.name.Path.TheVariants.{Over}
use Rattle.linx_base.specs.declared.identity.LinkNo.{LinkNo}
use Rattle.linx_base.specs.declared.identity.Peer.TheVariants.{Here}
use Rattle.linx_base.specs.declared.identity.Session.{Session}
use Rattle.linx_base.specs.declared.identity.Side.{Side}
use Rattle.linx_base.specs.declared.identity.Side.TheVariants.{First, Second}
use Rattle.linx_base.specs.declared.pending.PendingHunt.{PendingHunt}
use Rattle.trunk_record.specs.Changes.{beginning, giving, saying}
use Rattle.trunk_record.specs.Records.{SideRecord}
use Rattle.trunk_record.specs.Sayings.{Given, Said, heard_as}
use Rattle.trunk_record.specs.Trunks.{IsHalf}
use Rattle.journal.specs.History.{endpoint_by, name_in, name_of, name_or_none, opened_by, opened_in}
use Rattle.journal.specs.History.{opening_name, opens}
use Rattle.journal.specs.Living.{is_alive}
use Rattle.journal.specs.Pending.{ends_hunt, hunt_in, hunting}
use Rattle.journal.specs.Shapes.{Shape}
use Rattle.journal.specs.declared.effect.Step.{Step}
use Rattle.journal.proofs.Lists.{list_any-filter}
use Rattle.journal.proofs.Openings.{same_inc-true}
use Rattle.link_laws.specs.Ends.{IsLinkOf, node_at}
use Rattle.link_laws.specs.Sides.{AllHunted, Links, SideState}
use Rattle.link_laws.specs.Linked.{AreHunted, HasNone, HuntStands, IsTalking, asking, asks, coming}
use Rattle.link_laws.specs.Linked.{offers, waiting}
use Rattle.link_laws.specs.Sessions.{same_side}
use Rattle.link_laws.proofs.Hunts.Questions.{IsSameHere, end-parts}
use Rattle.link_laws.proofs.Hunts.OtherSteps.{hunts_down_far, hunts_down_near, hunts_more, talks}
use Rattle.link_laws.proofs.Endpoints.OpenAfterStep.{any-filter, open-on, opened-any}
use Rattle.link_laws.proofs.Endpoints.OpenAfterStep.{was_open_or_opened}
use Rattle.link_laws.proofs.AllLinks.OthersStay.{same_link, with_state}

-- a side's hunts, seen with the other side's state
abbrev pub IsHuntedAt : Shape → List Step → LinkNo → Side → SideState → SideState → Type 0
IsHuntedAt shape P l side C D =
    AreHunted P (node_at shape l side) (node_at shape l (other_of side)) l C.side D.side D.noted

-- ONE SIDE IS IN ANOTHER STATE: its link is seen from both sides, and all other links
pub one_link : (shape : Shape) (Q : List Step) (links : Links) (l : LinkNo) (at : Side)
    (C : SideState) → IsHuntedAt shape Q l at C (links l.0 (other_of at))
    → IsHuntedAt shape Q l (other_of at) (links l.0 (other_of at)) C
    → ((h : LinkNo) (side : Side) → IsLinkOf shape h → (h.0 == l.0) ≡ false
    → IsHuntedAt shape Q h side (links h.0 side) (links h.0 (other_of side)))
    → AllHunted shape Q (with_state links l.0 at C)
one_link shape Q links l at C near far elsewhere h of_h side = by_link (h.0 == l.0) refl
  where
    sides : (here side : Side) → IsHuntedAt shape Q l here C (links l.0 (other_of here))
        → IsHuntedAt shape Q l (other_of here) (links l.0 (other_of here)) C
        → IsHuntedAt shape Q l side (cond (same_side here side) C (links l.0 side))
        (cond (same_side here (other_of side)) C (links l.0 (other_of side)))
    sides First First it back = it
    sides First Second it back = back
    sides Second First it back = back
    sides Second Second it back = it

    by_link : (t : Bool) → (h.0 == l.0) ≡ t → IsHuntedAt shape Q h side
        (cond (t && same_side at side) C (links h.0 side))
        (cond (t && same_side at (other_of side)) C (links h.0 (other_of side)))
    by_link false e = elsewhere h side of_h e
    by_link true e =
        subst (λ (k : LinkNo). IsHuntedAt shape Q k side
        (cond (same_side at side) C (links k.0 side))
        (cond (same_side at (other_of side)) C (links k.0 (other_of side)))) (same_link l h e)
        (sides at side near far)

-- a step begins no hunt of node n over the link
abbrev pub BeginsNone : List Step → Step → ℕ → LinkNo → Type 0
BeginsNone P s n l = (w : List ℕ) → list_any (is_for (Over l w))
    (hunt_in n (suc (length P)) (endpoint_by P s.by) s.head) ≡ false

-- where a step opens none on a node, no open name is new there
pub names_were : (P : List Step) (s : Step) (m : ℕ) → opened_by m s.effects ≡ []
    → (v : List ℕ) → HasNone P m v → HasNone (s ∷ P) m v
names_were P s m opens_none v has i is =
    elim (was_open_or_opened P s m i is) [
      | inl was ↦ ap (bytes_eq v) (named was) ∙ has i was
      | inr new ↦ absurd (true≢false (sym new ∙ ap (list_any (same_inc i)) opens_none))
    ]
  where
    named : is_alive P m (Here i) ≡ true → name_of (s ∷ P) i ≡ name_of P i
    named was =
        let not_opened : list_any (opens i) s.effects ≡ false =
        sym (opened-any i s.effects)
        ∙ sym (any-filter (same_inc i) (is_on m) true (λ x e. ap (is_on m)
        (sym (same_inc-true i x e)) ∙ open-on P m i was) (filter_map opened_in s.effects))
        ∙ ap (list_any (same_inc i)) opens_none in
        ap (λ t. name_or_none (cond t (name_in s.head) (opening_name P i))) not_opened

-- and where it begins no hunt over the link on the other, both are as before
pub same_here : (P : List Step) (s : Step) (n m : ℕ) (l : LinkNo) → BeginsNone P s n l
    → opened_by m s.effects ≡ [] → IsSameHere P (s ∷ P) n m l
same_here P s n m l begins_none opens_none = record {
  hunts = λ w is.
      let new : List PendingHunt = hunt_in n (suc (length P)) (endpoint_by P s.by) s.head in
      elim (or_cases (list_any (is_for (Over l w)) (hunting P n)) (list_any (is_for (Over l w)) new)
      (sym (list_any-append (is_for (Over l w)) (hunting P n) new)
      ∙ list_any-filter (is_for (Over l w)) (λ h. not (ends_hunt s.effects h))
      (hunting P n ++ new) is)) [
        | inl was ↦ was
        | inr begun ↦ absurd (true≢false (sym begun ∙ begins_none w))
      ];
  none = names_were P s m opens_none;
}

-- then a side's hunts stand where they stood
pub hunts_stay : (P Q : List Step) (n m : ℕ) (l : LinkNo) (A B : SideRecord)
    (noted : List (List ℕ)) → IsSameHere P Q n m l → AreHunted P n m l A B noted
    → AreHunted Q n m l A B noted
hunts_stay P Q n m l A B noted same hunts = record {
  asked_all = λ v up is. hunts.asked_all v up (same.hunts v is);
  stand = λ talk v is. still v talk.to_far talk.to_near (hunts.stand talk v (same.hunts v is));
}
  where
    still : (v : List ℕ) (far near : List Said) → HuntStands P m noted v far near
        → HuntStands Q m noted v far near
    still v far near (asking is) = asking is
    still v far near (waiting is none) = waiting is (same.none v none)
    still v far near (coming is) = coming is

-- THE NEAR SIDE IS GIVEN what publishes no name
pub hunts_given : (P Q : List Step) (n m : ℕ) (l : LinkNo) (A B : SideRecord)
    (noted : List (List ℕ)) (g : Given) → ((w : List ℕ) → offers w (heard_as g) ≡ false)
    → IsSameHere P Q n m l → AreHunted P n m l A B noted → AreHunted Q n m l (giving g A) B noted
hunts_given P Q n m l A B noted g offers_none same hunts = record {
  asked_all = λ w up is. hunts.asked_all w up (same.hunts w is);
  stand = λ talk w is. ends talk w (hunts.stand (before talk) w (same.hunts w is));
}
  where
    before : IsTalking (giving g A) B → IsTalking A B
    before talk = record {
      pair = talk.pair;
      back = talk.back;
      to_far = talk.to_far;
      to_near = talk.to_near ++ heard_as g ∷ [];
      said = talk.said;
      answered = talk.answered
          ∙ sym (append_assoc talk.to_near (heard_as g ∷ []) (map heard_as A.now.given));
    }

    ends : (talk : IsTalking (giving g A) B) (w : List ℕ)
        → HuntStands P m noted w talk.to_far (talk.to_near ++ heard_as g ∷ [])
        → HuntStands Q m noted w talk.to_far talk.to_near
    ends talk w (asking is) = asking is
    ends talk w (waiting is none) = waiting is (same.none w none)
    ends talk w (coming is) =
        elim (end-parts (offers w) talk.to_near (heard_as g) is) [
          | inl e ↦ coming e
          | inr e ↦ absurd (true≢false (sym e ∙ offers_none w))
        ]

-- THE FAR SIDE IS GIVEN what asks for no name
pub hunts_heard : (P Q : List Step) (n m : ℕ) (l : LinkNo) (A B : SideRecord)
    (noted : List (List ℕ)) (g : Given) → ((w : List ℕ) → asks w (heard_as g) ≡ false)
    → IsSameHere P Q n m l → AreHunted P n m l A B noted → AreHunted Q n m l A (giving g B) noted
hunts_heard P Q n m l A B noted g asks_none same hunts = record {
  asked_all = λ w up is. hunts.asked_all w up (same.hunts w is);
  stand = λ talk w is. ends talk w (hunts.stand (before talk) w (same.hunts w is));
}
  where
    before : IsTalking A (giving g B) → IsTalking A B
    before talk = record {
      pair = talk.pair;
      back = talk.back;
      to_far = talk.to_far ++ heard_as g ∷ [];
      to_near = talk.to_near;
      said = talk.said
          ∙ sym (append_assoc talk.to_far (heard_as g ∷ []) (map heard_as B.now.given));
      answered = talk.answered;
    }

    ends : (talk : IsTalking A (giving g B)) (w : List ℕ)
        → HuntStands P m noted w (talk.to_far ++ heard_as g ∷ []) talk.to_near
        → HuntStands Q m noted w talk.to_far talk.to_near
    ends talk w (asking is) =
        elim (end-parts (asks w) talk.to_far (heard_as g) is) [
          | inl e ↦ asking e
          | inr e ↦ absurd (true≢false (sym e ∙ asks_none w))
        ]
    ends talk w (waiting is none) = waiting is (same.none w none)
    ends talk w (coming is) = coming is

-- a step that begins no hunt over a link and opens no endpoint
pub record IsCalm (P : List Step) (s : Step) : Type 0 where
  pub begins_none : (n : ℕ) (l : LinkNo) → BeginsNone P s n l
  pub opens_none : filter_map opened_in s.effects ≡ []

pub calm_here : (P : List Step) (s : Step) → IsCalm P s → (n m : ℕ) (l : LinkNo)
    → IsSameHere P (s ∷ P) n m l
calm_here P s calm n m l = same_here P s n m l (calm.begins_none n l)
    (ap (filter (is_on m)) calm.opens_none)

-- ALL SIDES, AFTER A CALM STEP
module _ (shape : Shape) (P : List Step) (links : Links) (s : Step) (calm : IsCalm P s)
    (hunted : AllHunted shape P links) where
  -- that leaves all sides
  pub hunted_calm : AllHunted shape (s ∷ P) links
  hunted_calm l of_shape side = hunts_stay P (s ∷ P) (node_at shape l side)
      (node_at shape l (other_of side)) l (links l.0 side).side (links l.0 (other_of side)).side
      (links l.0 (other_of side)).noted
      (calm_here P s calm (node_at shape l side) (node_at shape l (other_of side)) l)
      (hunted l of_shape side)

  module _ (l : LinkNo) (at : Side) (of_shape : IsLinkOf shape l) (C : SideState) where
    abbrev n : ℕ
    n = node_at shape l at

    abbrev m : ℕ
    m = node_at shape l (other_of at)

    abbrev D : SideState
    D = links l.0 at

    abbrev E : SideState
    E = links l.0 (other_of at)

    pub near : IsHuntedAt shape P l at D E
    near = hunted l of_shape at

    pub far : AreHunted P m n l E.side D.side D.noted
    far = turned at (hunted l of_shape (other_of at))
      where
        turned : (a : Side)
            → IsHuntedAt shape P l (other_of a) (links l.0 (other_of a))
            (links l.0 (other_of (other_of a)))
            → AreHunted P (node_at shape l (other_of a)) (node_at shape l a) l
            (links l.0 (other_of a)).side (links l.0 a).side (links l.0 a).noted
        turned First it = it
        turned Second it = it

    pub whole : AreHunted (s ∷ P) n m l C.side E.side E.noted
        → AreHunted (s ∷ P) m n l E.side C.side C.noted
        → AllHunted shape (s ∷ P) (with_state links l.0 at C)
    whole here there = one_link shape (s ∷ P) links l at C here (turned at here there)
        (λ h side of_h apart. hunted_calm h of_h side)
      where
        turned : (a : Side)
            → AreHunted (s ∷ P) (node_at shape l a) (node_at shape l (other_of a)) l C.side
            (links l.0 (other_of a)).side (links l.0 (other_of a)).noted
            → AreHunted (s ∷ P) (node_at shape l (other_of a)) (node_at shape l a) l
            (links l.0 (other_of a)).side C.side C.noted
            → IsHuntedAt shape (s ∷ P) l (other_of a) (links l.0 (other_of a)) C
        turned First it back = back
        turned Second it back = back

    -- a side is given what neither publishes nor asks for a name
    pub hunted_giving : (g : Given) → ((w : List ℕ) → offers w (heard_as g) ≡ false)
        → ((w : List ℕ) → asks w (heard_as g) ≡ false) → C.side ≡ giving g D.side
        → C.noted ≡ D.noted → AllHunted shape (s ∷ P) (with_state links l.0 at C)
    hunted_giving g offers_none asks_none given noted = whole
        (subst (λ (A : SideRecord). AreHunted (s ∷ P) n m l A E.side E.noted) (sym given)
        (hunts_given P (s ∷ P) n m l D.side E.side E.noted g offers_none
        (calm_here P s calm n m l) near))
        (subst (λ (A : SideRecord). AreHunted (s ∷ P) m n l E.side A C.noted) (sym given)
        (subst (λ (k : List (List ℕ)). AreHunted (s ∷ P) m n l E.side (giving g D.side) k)
        (sym noted) (hunts_heard P (s ∷ P) m n l E.side D.side D.noted g asks_none
        (calm_here P s calm m n l) far)))

    -- a side begins a session anew
    pub hunted_beginning : (x : Session) → C.side ≡ beginning x D.side
        → AllHunted shape (s ∷ P) (with_state links l.0 at C)
    hunted_beginning x begun = whole
        (subst (λ (A : SideRecord). AreHunted (s ∷ P) n m l A E.side E.noted) (sym begun)
        (hunts_down_near (s ∷ P) n m l D.side E.side E.noted x))
        (subst (λ (A : SideRecord). AreHunted (s ∷ P) m n l E.side A C.noted) (sym begun)
        (hunts_down_far P (s ∷ P) m n l E.side D.side D.noted C.noted x
        (calm_here P s calm m n l) far))

    -- a side says more, of which nothing answers the step
    pub hunted_saying : (ws : List Said) → IsHalf D.side E.side → IsHalf E.side D.side
        → C.side ≡ saying ws D.side → C.noted ≡ D.noted
        → AllHunted shape (s ∷ P) (with_state links l.0 at C)
    hunted_saying ws half back said noted = whole
        (subst (λ (A : SideRecord). AreHunted (s ∷ P) n m l A E.side E.noted) (sym said)
        (hunts_more P (s ∷ P) n m l D.side E.side E.noted ws [] (calm_here P s calm n m l) near
        (talks D.side E.side half back)))
        (subst (λ (A : SideRecord). AreHunted (s ∷ P) m n l E.side A C.noted) (sym said)
        (subst (λ (k : List (List ℕ)). AreHunted (s ∷ P) m n l E.side (saying ws D.side) k)
        (sym noted) (hunts_more P (s ∷ P) m n l E.side D.side D.noted [] ws
        (calm_here P s calm m n l) far (talks E.side D.side back half))))
