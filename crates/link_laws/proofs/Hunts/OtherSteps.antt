-- Where pending hunts stand after the other kinds of step.
use Rattle.std.proofs.Common.{◌≡◌, ℕ, Bool, true, false, cond, not, ◌&&◌, ◌⊎◌, inl, inr, List, []}
use Rattle.std.proofs.Common.{◌∷◌, ◌++◌, Some, None, map, refl, sym, ◌∙◌, ap, append-nil}
use Rattle.std.proofs.Common.{append_assoc, ◌==◌, filter, bytes_eq, true≢false}
use Rattle.std.specs.List.{list_any}
use Rattle.std.proofs.lemmas.Bool.{or_cases, or_left, or_right, false_from_ne_true}
use Rattle.std.proofs.lemmas.List.{append_cancel_right}
use Rattle.std.proofs.lemmas.List.Folds.{list_any-append}
use Rattle.linx_base.specs.Peers.{same_path}
use Rattle.linx_base.specs.Pending.{is_for}
use Rattle.linx_base.specs.declared.identity.Inc.{Inc}
use Rattle.linx_base.specs.declared.identity.LinkNo.{LinkNo}
use Rattle.linx_base.specs.declared.identity.Session.{Session}
use Rattle.linx_base.specs.declared.name.Path.{Path}
use Rattle.linx_base.specs.declared.name.Path.TheVariants.{Local, Over}
use Rattle.linx_base.specs.declared.pending.PendingHunt.{PendingHunt}
use Rattle.trunk_record.specs.Changes.{giving, saying, going_up, beginning}
use Rattle.trunk_record.specs.Records.{SideRecord, said_in}
use Rattle.trunk_record.specs.Sayings.{Said, published, asked, met, heard_as}
use Rattle.trunk_record.specs.Trunks.{IsHalf, IsHeardFrom, nothing_heard, heard}
use Rattle.journal.specs.Pending.{hunting}
use Rattle.journal.specs.declared.effect.Step.{Step}
use Rattle.link_laws.specs.Linked.{IsTalking, asks, offers, HuntStands, asking, waiting, coming}
use Rattle.link_laws.specs.Linked.{AreHunted, HasNone}
use Rattle.trunk_record.proofs.Lookups.{said-now}
use Rattle.link_laws.proofs.Hunts.Questions.{IsSameHere, end-parts}
use Rattle.link_laws.proofs.Endpoints.Names.{bytes_eq-is, bytes_eq-itself}
use Rattle.link_laws.proofs.Endpoints.OpenAfterStep.{both_true}

-- two sides of a trunk that are up with each other talk
pub talks : (A B : SideRecord) → IsHalf A B → IsHalf B A → A.now.peer ≡ Some B.now.session
    → B.now.peer ≡ Some A.now.session → IsTalking A B
talks A B near far pair back =
    let far_heard : (later : List Said) × (A.now.said ≡ later ++ map heard_as B.now.given) =
    of B A (far.hears.0) back in
    let near_heard : (later : List Said) × (B.now.said ≡ later ++ map heard_as A.now.given) =
    of A B (near.hears.0) pair in
    record {
      pair = pair;
      back = back;
      to_far = far_heard.0;
      to_near = near_heard.0;
      said = far_heard.1;
      answered = near_heard.1;
    }
  where
    of : (X Y : SideRecord) → IsHeardFrom Y X.now → X.now.peer ≡ Some Y.now.session
        → (later : List Said) × (Y.now.said ≡ later ++ map heard_as X.now.given)
    of X Y (nothing_heard none) up = (
      Y.now.said,
      sym (append-nil Y.now.said)
          ∙ ap (λ g. Y.now.said ++ map heard_as g) (sym none),
    )
    of X Y (heard y peer named later said) up =
        let same : y ≡ Y.now.session = cc in
        (later, sym (said-now Y) ∙ ap (said_in Y) (sym same) ∙ said)

-- MORE IS SAID on either side, hunts and names being as before
pub hunts_more : (P Q : List Step) (n m : ℕ) (l : LinkNo) (A B : SideRecord) (noted : List (List ℕ))
    (wa wb : List Said) → IsSameHere P Q n m l → AreHunted P n m l A B noted
    → (A.now.peer ≡ Some B.now.session → B.now.peer ≡ Some A.now.session → IsTalking A B)
    → AreHunted Q n m l (saying wa A) (saying wb B) noted
hunts_more P Q n m l A B noted wa wb same hunts were = record {
  asked_all = λ v up is. list_any-append (asks v) wa A.now.said
      ∙ or_right (list_any (asks v) wa) (list_any (asks v) A.now.said)
      (hunts.asked_all v up (was v is));
  stand = λ talk v is.
      let old = were talk.pair talk.back in
      let far : talk.to_far ≡ wa ++ old.to_far = append_cancel_right talk.to_far (wa ++ old.to_far)
      (map heard_as B.now.given) (sym talk.said ∙ ap (λ k. wa ++ k) old.said
      ∙ sym (append_assoc wa old.to_far (map heard_as B.now.given))) in
      let near : talk.to_near ≡ wb ++ old.to_near =
      append_cancel_right talk.to_near (wb ++ old.to_near) (map heard_as A.now.given)
      (sym talk.answered ∙ ap (λ k. wb ++ k) old.answered
      ∙ sym (append_assoc wb old.to_near (map heard_as A.now.given))) in
      more talk.to_far talk.to_near old.to_far old.to_near v far near
      (hunts.stand old v (was v is));
}
  where
    was : (v : List ℕ) → list_any (is_for (Over l v)) (hunting Q n) ≡ true
        → list_any (is_for (Over l v)) (hunting P n) ≡ true
    was v is = same.hunts v is

    more : (far near old_far old_near : List Said) (v : List ℕ) → far ≡ wa ++ old_far
        → near ≡ wb ++ old_near → HuntStands P m noted v old_far old_near
        → HuntStands Q m noted v far near
    more far near old_far old_near v e f (asking is) =
        asking (ap (list_any (asks v)) e ∙ list_any-append (asks v) wa old_far
        ∙ or_right (list_any (asks v) wa) (list_any (asks v) old_far) is)
    more far near old_far old_near v e f (waiting is none) = waiting is (same.none v none)
    more far near old_far old_near v e f (coming is) =
        coming (ap (list_any (offers v)) f ∙ list_any-append (offers v) wb old_near
        ∙ or_right (list_any (offers v) wb) (list_any (offers v) old_near) is)

-- A NEW HUNT that stays pending: its name is asked for at once
pub hunts_new : (P Q : List Step) (n m : ℕ) (l : LinkNo) (A B : SideRecord) (noted : List (List ℕ))
    (v : List ℕ) → ((w : List ℕ) → list_any (is_for (Over l w)) (hunting Q n) ≡ true
    → (bytes_eq w v ≡ true) ⊎ (list_any (is_for (Over l w)) (hunting P n) ≡ true))
    → ((w : List ℕ) → HasNone P m w → HasNone Q m w) → AreHunted P n m l A B noted
    → (A.now.peer ≡ Some B.now.session → B.now.peer ≡ Some A.now.session → IsTalking A B)
    → AreHunted Q n m l (saying (asked v ∷ []) A) B noted
hunts_new P Q n m l A B noted v new none_still hunts were = record {
  asked_all = λ w up is. elim (new w is) [
    | inl e ↦ or_left (bytes_eq w v) (list_any (asks w) A.now.said) e
    | inr e ↦ or_right (bytes_eq w v) (list_any (asks w) A.now.said) (hunts.asked_all w up e)
  ];
  stand = λ talk w is.
      let old = were talk.pair talk.back in
      let far : talk.to_far ≡ asked v ∷ old.to_far =
      append_cancel_right talk.to_far (asked v ∷ old.to_far) (map heard_as B.now.given)
      (sym talk.said ∙ ap (λ k. asked v ∷ k) old.said) in
      let near : talk.to_near ≡ old.to_near = append_cancel_right talk.to_near old.to_near
      (map heard_as A.now.given) (sym talk.answered ∙ old.answered) in
      elim (new w is) [
        | inl e ↦ asking (ap (list_any (asks w)) far
            ∙ or_left (bytes_eq w v) (list_any (asks w) old.to_far) e)
        | inr e ↦ more talk.to_far talk.to_near old.to_far old.to_near w far near
            (hunts.stand old w e)
      ];
}
  where
    more : (far near old_far old_near : List Said) (w : List ℕ) → far ≡ asked v ∷ old_far
        → near ≡ old_near → HuntStands P m noted w old_far old_near
        → HuntStands Q m noted w far near
    more far near old_far old_near w e f (asking is) =
        asking (ap (list_any (asks w)) e ∙ or_right (bytes_eq w v) (list_any (asks w) old_far) is)
    more far near old_far old_near w e f (waiting is none) = waiting is (none_still w none)
    more far near old_far old_near w e f (coming is) = coming (ap (list_any (offers w)) f ∙ is)

abbrev before_met : (A B : SideRecord) (i : Inc) (v : List ℕ) → IsTalking (giving (met i v) A) B
    → IsTalking A B
before_met A B i v talk = record {
  pair = talk.pair;
  back = talk.back;
  to_far = talk.to_far;
  to_near = talk.to_near ++ published i v ∷ [];
  said = talk.said;
  answered = talk.answered ∙ sym (append_assoc talk.to_near (published i v ∷ [])
      (map heard_as A.now.given));
}

-- A PEER IS MET: the hunts for its name are answered, so none is pending for it
pub hunts_met : (P Q : List Step) (n m : ℕ) (l : LinkNo) (A B : SideRecord) (noted : List (List ℕ))
    (i : Inc) (v : List ℕ) → ((w : List ℕ) → list_any (is_for (Over l w)) (hunting Q n) ≡ true
    → (bytes_eq w v ≡ false) × (list_any (is_for (Over l w)) (hunting P n) ≡ true))
    → ((w : List ℕ) → HasNone P m w → HasNone Q m w) → AreHunted P n m l A B noted
    → AreHunted Q n m l (giving (met i v) A) B noted
hunts_met P Q n m l A B noted i v left none_still hunts = record {
  asked_all = λ w up is. hunts.asked_all w up (left w is).1;
  stand = λ talk w is. ends talk w (left w is).0
      (hunts.stand (before_met A B i v talk) w (left w is).1);
}
  where
    ends : (talk : IsTalking (giving (met i v) A) B) (w : List ℕ) → bytes_eq w v ≡ false
        → HuntStands P m noted w talk.to_far (talk.to_near ++ published i v ∷ [])
        → HuntStands Q m noted w talk.to_far talk.to_near
    ends talk w apart (asking is) = asking is
    ends talk w apart (waiting is none) = waiting is (none_still w none)
    ends talk w apart (coming is) =
        elim (end-parts (offers w) talk.to_near (published i v) is) [
          | inl e ↦ coming e
          | inr e ↦ absurd (true≢false (sym e ∙ apart))
        ]

-- of the hunts that a meeting leaves none is for the met name
pub left-others : (l : LinkNo) (v w : List ℕ) (hs : List PendingHunt)
    → list_any (is_for (Over l w)) (filter (λ h. not (same_path (Over l v) h.path)) hs) ≡ true
    → (bytes_eq w v ≡ false) × (list_any (is_for (Over l w)) hs ≡ true)
left-others l v w [] is = absurd (true≢false (sym is))
left-others l v w (h ∷ hs) is = by_test (same_path (Over l v) h.path) refl is (left-others l v w hs)
  where
    apart : (path : Path) → same_path (Over l v) path ≡ false → same_path (Over l w) path ≡ true
        → bytes_eq w v ≡ false
    apart (Local u) e on = absurd (true≢false (sym on))
    apart (Over k u) e on =
        let both = both_true (l.0 == k.0) (bytes_eq w u) on in
        let w_is : w ≡ u = bytes_eq-is w u both.1 in
        false_from_ne_true (bytes_eq w v) (λ same.
        let v_is : w ≡ v = bytes_eq-is w v same in
        true≢false (sym (ap (λ t. t && bytes_eq v u) both.0 ∙ ap (bytes_eq v) (sym w_is ∙ v_is)
        ∙ bytes_eq-itself v) ∙ e))

    by_test : (t : Bool) → same_path (Over l v) h.path ≡ t
        → list_any (is_for (Over l w)) (cond (not t) (h
        ∷ filter (λ k. not (same_path (Over l v) k.path)) hs)
        (filter (λ k. not (same_path (Over l v) k.path)) hs)) ≡ true
        → (list_any (is_for (Over l w)) (filter (λ k. not (same_path (Over l v) k.path)) hs) ≡ true
        → (bytes_eq w v ≡ false) × (list_any (is_for (Over l w)) hs ≡ true))
        → (bytes_eq w v ≡ false) × (list_any (is_for (Over l w)) (h ∷ hs) ≡ true)
    by_test true e found rest = let later = rest found in
        (later.0, or_right (is_for (Over l w) h) (list_any (is_for (Over l w)) hs) later.1)
    by_test false e found rest =
        elim (or_cases (is_for (Over l w) h) (list_any (is_for (Over l w))
        (filter (λ k. not (same_path (Over l v) k.path)) hs)) found) [
          | inl on ↦ (
            apart h.path e on,
            or_left (is_for (Over l w) h)
                (list_any (is_for (Over l w)) hs) on,
          )
          | inr more ↦ let later = rest more in (
            later.0,
            or_right (is_for (Over l w) h) (list_any (is_for (Over l w)) hs) later.1,
          )
        ]

-- THE NEAR SIDE GOES UP, and asks for the name of each pending hunt
pub hunts_up_near : (Q : List Step) (n m : ℕ) (l : LinkNo) (A B : SideRecord)
    (noted : List (List ℕ)) (y : Session) (ws : List Said) → A.now.said ≡ []
    → ((v : List ℕ) → list_any (is_for (Over l v)) (hunting Q n) ≡ true
    → list_any (asks v) ws ≡ true) → (B.now.peer ≡ Some A.now.session → B.now.given ≡ [])
    → AreHunted Q n m l (saying ws (going_up y A)) B noted
hunts_up_near Q n m l A B noted y ws none asked_for_all fresh_there = record {
  asked_all = λ v up is. list_any-append (asks v) ws A.now.said
      ∙ or_left (list_any (asks v) ws) (list_any (asks v) A.now.said) (asked_for_all v is);
  stand = λ talk v is.
      let all_far : talk.to_far ≡ ws ++ A.now.said = sym (append-nil talk.to_far)
      ∙ ap (λ g. talk.to_far ++ map heard_as g) (sym (fresh_there talk.back)) ∙ sym talk.said in
      asking (ap (list_any (asks v)) (all_far ∙ ap (λ k. ws ++ k) none ∙ append-nil ws)
      ∙ asked_for_all v is);
}

-- THE FAR SIDE GOES UP: it has heard nothing yet, so each question is on its way
pub hunts_up_far : (P Q : List Step) (n m : ℕ) (l : LinkNo) (A B : SideRecord)
    (noted : List (List ℕ)) (y : Session) → ((v : List ℕ)
    → list_any (is_for (Over l v)) (hunting Q n) ≡ true
    → list_any (is_for (Over l v)) (hunting P n) ≡ true) → AreHunted P n m l A B noted
    → B.now.given ≡ [] → AreHunted Q n m l A (going_up y B) []
hunts_up_far P Q n m l A B noted y was hunts none = record {
  asked_all = λ v up is. hunts.asked_all v up (was v is);
  stand = λ talk v is.
      let all_far : talk.to_far ≡ A.now.said = sym (append-nil talk.to_far)
      ∙ ap (λ g. talk.to_far ++ map heard_as g) (sym none) ∙ sym talk.said in
      asking (ap (list_any (asks v)) all_far ∙ hunts.asked_all v (λ down. nothing talk.pair down)
      (was v is));
}
  where
    nothing : {x : Session} → A.now.peer ≡ Some x → A.now.peer ≡ None → ⊥
    nothing up down = cc

-- EITHER SIDE GOES DOWN: nobody talks
pub hunts_down_near : (Q : List Step) (n m : ℕ) (l : LinkNo) (A B : SideRecord)
    (noted : List (List ℕ)) (x : Session) → AreHunted Q n m l (beginning x A) B noted
hunts_down_near Q n m l A B noted x = record {
  asked_all = λ v up is. absurd (up refl);
  stand = λ talk v is. let pair = talk.pair in absurd cc;
}

pub hunts_down_far : (P Q : List Step) (n m : ℕ) (l : LinkNo) (A B : SideRecord)
    (noted noted' : List (List ℕ)) (x : Session) → IsSameHere P Q n m l
    → AreHunted P n m l A B noted → AreHunted Q n m l A (beginning x B) noted'
hunts_down_far P Q n m l A B noted noted' x same hunts = record {
  asked_all = λ v up is. hunts.asked_all v up (same.hunts v is);
  stand = λ talk v is. let back = talk.back in absurd cc;
}

-- A NAME IS OPENED on the far node: where it was noted it is published
pub hunts_opened : (P Q : List Step) (n m : ℕ) (l : LinkNo) (A B : SideRecord)
    (noted noted' : List (List ℕ)) (i : Inc) (v : List ℕ) → ((w : List ℕ)
    → list_any (is_for (Over l w)) (hunting Q n) ≡ true
    → list_any (is_for (Over l w)) (hunting P n) ≡ true)
    → ((w : List ℕ) → bytes_eq w v ≡ false → HasNone P m w → HasNone Q m w)
    → ((w : List ℕ) → bytes_eq w v ≡ false → list_any (bytes_eq w) noted ≡ true
    → list_any (bytes_eq w) noted' ≡ true) → AreHunted P n m l A B noted
    → (A.now.peer ≡ Some B.now.session → B.now.peer ≡ Some A.now.session → IsTalking A B) →
    AreHunted Q n m l A (saying (cond (list_any (bytes_eq v) noted) (published i v ∷ []) []) B)
    noted'
hunts_opened P Q n m l A B noted noted' i v was none_still noted_still hunts were = record {
  asked_all = λ w up is. hunts.asked_all w up (was w is);
  stand = λ talk w is.
      let old = were talk.pair talk.back in
      let far : talk.to_far ≡ old.to_far = append_cancel_right talk.to_far old.to_far
      (map heard_as B.now.given) (sym talk.said ∙ old.said) in
      let near : talk.to_near ≡ cond (list_any (bytes_eq v) noted) (published i v ∷ []) []
      ++ old.to_near =
      append_cancel_right talk.to_near (cond (list_any (bytes_eq v) noted) (published i v ∷ []) []
      ++ old.to_near) (map heard_as A.now.given)
      (sym talk.answered ∙ ap (λ k. cond (list_any (bytes_eq v) noted) (published i v ∷ []) [] ++ k)
      old.answered ∙ sym (append_assoc (cond (list_any (bytes_eq v) noted) (published i v ∷ [])
      []) old.to_near (map heard_as A.now.given))) in
      more talk.to_far talk.to_near old.to_far old.to_near w far near
      (hunts.stand old w (was w is));
}
  where
    more : (far near old_far old_near : List Said) (w : List ℕ) → far ≡ old_far
        → near ≡ cond (list_any (bytes_eq v) noted) (published i v ∷ []) [] ++ old_near
        → HuntStands P m noted w old_far old_near → HuntStands Q m noted' w far near
    more far near old_far old_near w e f (asking is) = asking (ap (list_any (asks w)) e ∙ is)
    more far near old_far old_near w e f (waiting is none) = by_name (bytes_eq w v) refl
      where
        by_name : (t : Bool) → bytes_eq w v ≡ t → HuntStands Q m noted' w far near
        by_name false apart = waiting (noted_still w apart is) (none_still w apart none)
        by_name true alike =
            let same_name : w ≡ v = bytes_eq-is w v alike in
            let in_notes : list_any (bytes_eq v) noted ≡ true =
            ap (λ u. list_any (bytes_eq u) noted) (sym same_name) ∙ is in
            coming (ap (list_any (offers w)) (f ∙ ap (λ t. cond t (published i v ∷ []) []
            ++ old_near) in_notes) ∙ or_left (bytes_eq w v) (list_any (offers w) old_near)
            alike)
    more far near old_far old_near w e f (coming is) =
        coming (ap (list_any (offers w)) f ∙ list_any-append (offers w)
        (cond (list_any (bytes_eq v) noted) (published i v ∷ []) []) old_near
        ∙ or_right (list_any (offers w) (cond (list_any (bytes_eq v) noted) (published i v ∷ [])
        [])) (list_any (offers w) old_near) is)
