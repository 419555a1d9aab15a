-- Where pending hunts stand on every side of every link, where one side met a peer, heard a
-- question, went up or sends.
use Rattle.std.proofs.Common.{◌≡◌, ℕ, ◌||◌, true, false, cond, List, [], ◌∷◌, Some, None, refl, sym}
use Rattle.std.proofs.Common.{◌∙◌, ap, subst, bytes_eq}
use Rattle.std.specs.List.{list_any}
use Rattle.linx_base.specs.Sides.{other_of}
use Rattle.linx_base.specs.declared.identity.Inc.{Inc}
use Rattle.linx_base.specs.declared.identity.LinkNo.{LinkNo}
use Rattle.linx_base.specs.declared.identity.Peer.TheVariants.{Here}
use Rattle.linx_base.specs.declared.identity.Session.{Session}
use Rattle.linx_base.specs.declared.identity.Side.{Side}
use Rattle.trunk_record.specs.Changes.{giving, going_up, saying}
use Rattle.trunk_record.specs.Records.{SideRecord, peer_in}
use Rattle.trunk_record.specs.Sayings.{Said, asked_for, is_live, met, published}
use Rattle.trunk_record.specs.Trunks.{IsHalf, IsHeardFrom, heard, nothing_heard}
use Rattle.journal.specs.History.{name_of}
use Rattle.journal.specs.Living.{is_alive}
use Rattle.journal.specs.Shapes.{Shape}
use Rattle.journal.specs.declared.effect.Step.{Step}
use Rattle.link_laws.specs.Ends.{IsLinkOf, node_at}
use Rattle.link_laws.specs.Sides.{AllHunted, Links, SideState}
use Rattle.link_laws.specs.Linked.{AreHunted, HasNone, HuntStands, IsLinked, IsUnfound, asking}
use Rattle.link_laws.specs.Linked.{asks, coming, is_hunted, waiting}
use Rattle.link_laws.specs.Moves.{KeepsNotes, NotesName, questions}
use Rattle.trunk_record.proofs.Lookups.{peer-now}
use Rattle.link_laws.proofs.Hunts.EachStep.{IsCalm, calm_here, far, hunts_given, hunts_heard, near}
use Rattle.link_laws.proofs.Hunts.EachStep.{whole}
use Rattle.link_laws.proofs.Hunts.Questions.{IsSameHere, hunts_noted, hunts_offered}
use Rattle.link_laws.proofs.Hunts.OtherSteps.{hunts_met, hunts_more, hunts_up_far, hunts_up_near}
use Rattle.link_laws.proofs.Hunts.OtherSteps.{talks}
use Rattle.link_laws.proofs.AllLinks.OthersStay.{with_state}

-- MORE NAMES ARE NOTED
pub hunts_noting : (P : List Step) (n m : ℕ) (l : LinkNo) (A B : SideRecord)
    (noted noted' : List (List ℕ)) → ((w : List ℕ) → list_any (bytes_eq w) noted ≡ true
    → list_any (bytes_eq w) noted' ≡ true)
    → AreHunted P n m l A B noted → AreHunted P n m l A B noted'
hunts_noting P n m l A B noted noted' more hunts = record {
  asked_all = hunts.asked_all;
  stand = λ talk w is. stands w talk.to_far talk.to_near (hunts.stand talk w is);
}
  where
    stands : (w : List ℕ) (to_far to_near : List Said) → HuntStands P m noted w to_far to_near
        → HuntStands P m noted' w to_far to_near
    stands w to_far to_near (asking is) = asking is
    stands w to_far to_near (waiting is none) = waiting (more w is) none
    stands w to_far to_near (coming is) = coming is

-- A NAME IS FORGOTTEN that an open endpoint has, so that no hunt waits for it
pub hunts_forgetting : (P : List Step) (n m : ℕ) (l : LinkNo) (A B : SideRecord)
    (noted noted' : List (List ℕ)) (j : Inc) → is_alive P m (Here j) ≡ true
    → ((w : List ℕ) → bytes_eq w (name_of P j) ≡ false → list_any (bytes_eq w) noted ≡ true
    → list_any (bytes_eq w) noted' ≡ true)
    → AreHunted P n m l A B noted → AreHunted P n m l A B noted'
hunts_forgetting P n m l A B noted noted' j open_ kept hunts = record {
  asked_all = hunts.asked_all;
  stand = λ talk w is. stands w talk.to_far talk.to_near (hunts.stand talk w is);
}
  where
    stands : (w : List ℕ) (to_far to_near : List Said) → HuntStands P m noted w to_far to_near
        → HuntStands P m noted' w to_far to_near
    stands w to_far to_near (asking is) = asking is
    stands w to_far to_near (waiting is none) = waiting (kept w (none j open_) is) none
    stands w to_far to_near (coming is) = coming is

-- a journal is the same as itself
pub same_itself : (Q : List Step) (n m : ℕ) (l : LinkNo) → IsSameHere Q Q n m l
same_itself Q n m l = record { hunts = λ w is. is; none = λ v none. none }

-- who asks for the names asks for each of them
pub questions-ask : (v : List ℕ) (names : List (List ℕ))
    → list_any (asks v) (questions names) ≡ list_any (bytes_eq v) names
questions-ask v [] = refl
questions-ask v (w ∷ names) = ap (λ t. bytes_eq v w || t) (questions-ask v names)

-- who is up with a side that is down was given nothing in that session
pub fresh_there : (A B : SideRecord) → IsHalf B A → A.now.peer ≡ None
    → B.now.peer ≡ Some A.now.session → B.now.given ≡ []
fresh_there A B half down up = by_hearing half.hears.0
  where
    by_hearing : IsHeardFrom A B.now → B.now.given ≡ []
    by_hearing (nothing_heard none) = none
    by_hearing (heard y pair back later said) =
        let same : y ≡ A.now.session = cc in
        let none : peer_in A y ≡ None = ap (peer_in A) same ∙ peer-now A ∙ down in
        absurd cc

module _ (shape : Shape) (P : List Step) (links : Links) (s : Step) (calm : IsCalm P s)
    (hunted : AllHunted shape P links) (l : LinkNo) (at : Side) (of_shape : IsLinkOf shape l)
    (C : SideState) where
  abbrev n : ℕ
  n = node_at shape l at

  abbrev m : ℕ
  m = node_at shape l (other_of at)

  abbrev D : SideState
  D = links l.0 at

  abbrev E : SideState
  E = links l.0 (other_of at)

  abbrev Q : List Step
  Q = s ∷ P

  near_was : AreHunted P n m l D.side E.side E.noted
  near_was = near shape P links s calm hunted l at of_shape C

  far_was : AreHunted P m n l E.side D.side D.noted
  far_was = far shape P links s calm hunted l at of_shape C

  -- the side is this record now, with these notes
  abbrev Whole : Type 0
  Whole = AllHunted shape Q (with_state links l.0 at C)

  restated : (A : SideRecord) (notes : List (List ℕ)) → C.side ≡ A → C.noted ≡ notes
      → AreHunted Q n m l A E.side E.noted → AreHunted Q m n l E.side A notes → Whole
  restated A notes made noted here there = whole shape P links s calm hunted l at of_shape C
      (subst (λ (B : SideRecord). AreHunted Q n m l B E.side E.noted) (sym made) here)
      (subst (λ (B : SideRecord). AreHunted Q m n l E.side B C.noted) (sym made)
      (subst (λ (k : List (List ℕ)). AreHunted Q m n l E.side A k) (sym noted) there))

  -- A PEER IS MET, and no hunt for its name is pending any more
  pub hunted_meeting : (i : Inc) (v : List ℕ)
      → ((w : List ℕ) → is_hunted Q n l w ≡ true → bytes_eq w v ≡ false)
      → C.side ≡ giving (met i v) D.side → C.noted ≡ D.noted → Whole
  hunted_meeting i v others given noted =
      let same : IsSameHere P Q n m l = calm_here P s calm n m l in
      restated (giving (met i v) D.side) D.noted given noted
      (hunts_met P Q n m l D.side E.side E.noted i v (λ w is. (others w is, same.hunts w is))
      (λ w none. same.none w none) near_was)
      (hunts_heard P Q m n l E.side D.side D.noted (met i v) (λ w. refl) (calm_here P s calm m n l)
      far_was)

  -- A QUESTION is heard, and noted where nobody has the name
  pub hunted_noting : (v : List ℕ) → HasNone P n v → C.side ≡ giving (asked_for v) D.side
      → NotesName v D C → Whole
  hunted_noting v none given notes =
      restated (giving (asked_for v) D.side) C.noted given refl
      (hunts_given P Q n m l D.side E.side E.noted (asked_for v) (λ w. refl)
      (calm_here P s calm n m l) near_was)
      (hunts_noting Q m n l E.side (giving (asked_for v) D.side) (v ∷ D.noted) C.noted notes
      (hunts_noted P Q m n l E.side D.side D.noted v (calm_here P s calm m n l) far_was none))

  -- and an open endpoint of the name is published otherwise
  abbrev asked_side : List ℕ → SideRecord
  asked_side v = giving (asked_for v) D.side

  abbrev answer : Inc → List ℕ → List Said
  answer i v = cond (is_live i D.side.now.said) [] (published i v ∷ [])

  pub hunted_offering : (v : List ℕ) (i : Inc) → is_alive P n (Here i) ≡ true → name_of P i ≡ v
      → IsLinked P n l D.side → IsLinked P m l E.side
      → ((w : List ℕ) → is_hunted P m l w ≡ true → IsUnfound P m l w)
      → IsHalf D.side E.side → IsHalf E.side D.side
      → IsHalf (giving (asked_for v) D.side) E.side → IsHalf E.side (giving (asked_for v) D.side)
      → C.side ≡ saying (cond (is_live i D.side.now.said) [] (published i v ∷ []))
      (giving (asked_for v) D.side) → KeepsNotes v D C → Whole
  hunted_offering v i open_ named mine other unfound half back half_given back_given made keeps =
      restated (saying (answer i v) (asked_side v)) C.noted made refl
      (hunts_more Q Q n m l (asked_side v) E.side E.noted (answer i v) [] (same_itself Q n m l)
      (hunts_given P Q n m l D.side E.side E.noted (asked_for v) (λ w. refl)
      (calm_here P s calm n m l) near_was)
      (talks (asked_side v) E.side half_given back_given)) there
    where
      there : AreHunted Q m n l E.side (saying (answer i v) (asked_side v)) C.noted
      there = record {
        asked_all = λ w up is. far_was.asked_all w up ((calm_here P s calm m n l).hunts w is);
        stand = λ talk w is.
            let old = talks E.side D.side back half talk.pair talk.back in
            (hunts_offered P Q m n l E.side D.side D.noted v (calm_here P s calm m n l) far_was i
            old.to_near old.answered open_ named other mine unfound C.noted keeps).stand talk w is;
      }

  -- THE SIDE GOES UP, and asks for the name of each pending hunt
  pub hunted_up : (y : Session) (names : List (List ℕ))
      → ((v : List ℕ) → is_hunted P n l v ≡ true → list_any (bytes_eq v) names ≡ true)
      → D.side.now.peer ≡ None → D.side.now.said ≡ [] → D.side.now.given ≡ []
      → IsHalf E.side D.side → IsHalf (going_up y D.side) E.side
      → IsHalf E.side (going_up y D.side)
      → C.side ≡ saying (questions names) (going_up y D.side) → C.noted ≡ [] → Whole
  hunted_up y names asks_all down none_said none_given back up_near up_far made noted =
      let same : IsSameHere P Q n m l = calm_here P s calm n m l in
      let other : IsSameHere P Q m n l = calm_here P s calm m n l in
      restated (saying (questions names) (going_up y D.side)) [] made noted
      (hunts_up_near Q n m l D.side E.side E.noted y (questions names) none_said
      (λ v is. questions-ask v names ∙ asks_all v (same.hunts v is))
      (fresh_there D.side E.side back down))
      (hunts_more Q Q m n l E.side (going_up y D.side) [] [] (questions names)
      (same_itself Q m n l)
      (hunts_up_far P Q m n l E.side D.side D.noted y (λ v is. other.hunts v is) far_was none_given)
      (talks E.side (going_up y D.side) up_far up_near))

  -- THE SIDE SENDS for an open endpoint, whose name may be forgotten
  pub hunted_sending : (ws : List Said) (j : Inc) → is_alive P n (Here j) ≡ true
      → IsHalf D.side E.side → IsHalf E.side D.side → C.side ≡ saying ws D.side
      → KeepsNotes (name_of P j) D C → Whole
  hunted_sending ws j open_ half back said keeps =
      restated (saying ws D.side) C.noted said refl
      (hunts_more P Q n m l D.side E.side E.noted ws [] (calm_here P s calm n m l) near_was
      (talks D.side E.side half back))
      (hunts_more P Q m n l E.side D.side C.noted [] ws (calm_here P s calm m n l)
      (hunts_forgetting P m n l E.side D.side D.noted C.noted j open_ keeps far_was)
      (talks E.side D.side back half))
