-- What a trunk keeps is inductive in the words of its records: saying more, giving the next thing
-- heard, going up, beginning a new session.
use Rattle.std.proofs.Common.{[], ◌≡◌, ◌≢◌, ℕ, Bool, true, false, cond, inl, inr, List, ◌∷◌, ◌++◌}
use Rattle.std.proofs.Common.{Some, None, map, refl, sym, ◌∙◌, ap, subst, append_assoc, ◌==◌}
use Rattle.std.proofs.Common.{true≢false, eqb-true}
use Rattle.std.specs.List.{list_any, AllByRecursion}
use Rattle.std.proofs.lemmas.Bool.{or_cases, or_right, false_from_ne_true, or_left}
use Rattle.std.proofs.lemmas.List.Folds.{list_any-append}
use Rattle.linx_base.specs.FirstMatch.{first_match}
use Rattle.linx_base.specs.Peers.{same_inc}
use Rattle.linx_base.specs.declared.identity.Inc.{Inc}
use Rattle.linx_base.specs.declared.identity.Session.{Session}
use Rattle.linx_base.specs.SigNotes.{SigNote}
use Rattle.trunk_record.specs.Changes.{new_side, says_sending, giving, saying, going_up, beginning}
use Rattle.trunk_record.specs.Changes.{fresh}
use Rattle.trunk_record.specs.Records.{SessionRecord, SideRecord, all, has_session, peer_of}
use Rattle.trunk_record.specs.Records.{said_of, peer_in, said_in}
use Rattle.trunk_record.specs.Sayings.{Said, Given, heard_as, frees, was_unpublished, unpublishes}
use Rattle.trunk_record.specs.Sayings.{IsProper, AreInTurn, met, asked_for, arrived, freed, gone}
use Rattle.trunk_record.specs.Sayings.{is_live, published, signaled, was_published}
use Rattle.trunk_record.specs.Trunks.{IsHeardFrom, nothing_heard, heard, IsBelow, IsHalf}
use Rattle.trunk_record.specs.Trunks.{FitsReceiver}
use Rattle.trunk_record.proofs.Lists.{all-impl}
use Rattle.trunk_record.proofs.Lookups.{saying-said, saying-peer, giving-said, giving-peer}
use Rattle.trunk_record.proofs.Lookups.{none_such}
use Rattle.trunk_record.proofs.Sayings.{live-not_unpublished, published-live, same_inc-is}
use Rattle.trunk_record.proofs.Sayings.{same_inc-itself}

-- what a record heard, it heard also where the other side has said more
heard-more : (B C : SideRecord) (e : SessionRecord)
    → ((y : Session) → peer_in B y ≡ Some e.session → (peer_in C y ≡ Some e.session)
    × ((more : List Said) × (said_in C y ≡ more ++ said_in B y))) → IsHeardFrom B e
    → IsHeardFrom C e
heard-more B C e grows (nothing_heard none) = nothing_heard none
heard-more B C e grows (heard y pair back later said) =
    let g = grows y back in
    heard y pair g.0 (g.1.0 ++ later) (g.1.1 ∙ ap (λ k. g.1.0 ++ k) said
    ∙ sym (append_assoc g.1.0 later (map heard_as e.given)))

-- SAYING MORE
pub half_saying : (A B : SideRecord) (ws : List Said) → IsHalf A B → IsProper (ws ++ A.now.said)
    → A.now.peer ≢ None → IsHalf (saying ws A) B
half_saying A B ws half proper up = record {
  rising = half.rising;
  proper = (proper, half.proper.1);
  hears = (now half.hears.0, half.hears.1);
  frees_closed = (
    (λ j is. list_any-append (unpublishes j) ws A.now.said
        ∙ or_right (list_any (unpublishes j) ws) (was_unpublished j A.now.said)
        (half.frees_closed.0 j is)),
    half.frees_closed.1,
  );
  in_turn = half.in_turn;
  empty = ((λ down. absurd (up down)), half.empty.1);
}
  where
    now : IsHeardFrom B A.now → IsHeardFrom B (record A.now { said = ws ++ A.now.said })
    now (nothing_heard none) = nothing_heard none
    now (heard y pair back later said) = heard y pair back later said

pub half_of_saying : (A B : SideRecord) (ws : List Said) → IsHalf B A → IsHalf B (saying ws A)
half_of_saying A B ws half = record {
  rising = half.rising;
  proper = half.proper;
  hears = all-impl (IsHeardFrom A) (IsHeardFrom (saying ws A))
      (λ e h. heard-more A (saying ws A) e (λ y back. (
        saying-peer ws A y ∙ back,
        (cond (has_session y A.now) ws [], saying-said ws A y),
      )) h) (all B) half.hears;
  frees_closed = half.frees_closed;
  in_turn = half.in_turn;
  empty = half.empty;
}

-- GIVING what is next of what the other side said in the session that has this one as its peer
pub half_giving : (A B : SideRecord) (g : Given) (y : Session) (later : List Said) → IsHalf A B
    → A.now.peer ≡ Some y → peer_in B y ≡ Some A.now.session
    → said_in B y ≡ later ++ heard_as g ∷ map heard_as A.now.given
    → FitsReceiver A g → IsHalf (giving g A) B
half_giving A B g y later half pair back said fits = record {
  rising = half.rising;
  proper = half.proper;
  hears = (heard y pair back later said, half.hears.1);
  frees_closed = (
    (λ j is. elim (or_cases (frees j g) (list_any (frees j) A.now.given) is)
        [ inl e ↦ frees_it g fits j e | inr e ↦ half.frees_closed.0 j e ]),
    half.frees_closed.1,
  );
  in_turn = (turn g fits, half.in_turn.1);
  empty = ((λ down. absurd cc), half.empty.1);
}
  where
    frees_it : (h : Given) → FitsReceiver A h → (j : Inc) → frees j h ≡ true
        → was_unpublished j A.now.said ≡ true
    frees_it (freed a b note) there j e =
        subst (λ (k : Inc). was_unpublished k A.now.said ≡ true) (sym (same_inc-is j b e)) there
    frees_it _ there j e = absurd (true≢false (sym e))

    turn : (h : Given) → FitsReceiver A h → AreInTurn (h ∷ A.now.given)
    turn (met i name) there = half.in_turn.0
    turn (asked_for name) there = half.in_turn.0
    turn (arrived a b note) there = (
      false_from_ne_true (list_any (frees b) A.now.given) (λ is.
          true≢false (sym (half.frees_closed.0 b is)
          ∙ live-not_unpublished b A.now.said half.proper.0 there)),
      half.in_turn.0,
    )
    turn (freed a b note) there = half.in_turn.0
    turn (gone i) there = half.in_turn.0

pub half_of_giving : (A B : SideRecord) (g : Given) → IsHalf B A → IsHalf B (giving g A)
half_of_giving A B g half = record {
  rising = half.rising;
  proper = half.proper;
  hears = all-impl (IsHeardFrom A) (IsHeardFrom (giving g A))
      (λ e h. heard-more A (giving g A) e (λ y back. (
        giving-peer g A y ∙ back,
        ([], giving-said g A y),
      )) h) (all B) half.hears;
  frees_closed = half.frees_closed;
  in_turn = half.in_turn;
  empty = half.empty;
}

-- GOING UP
pub half_up : (A B : SideRecord) (y : Session) → IsHalf A B → A.now.peer ≡ None
    → IsHalf (going_up y A) B
half_up A B y half down = record {
  rising = half.rising;
  proper = half.proper;
  hears = (nothing_heard (half.empty.0 down).1, half.hears.1);
  frees_closed = half.frees_closed;
  in_turn = half.in_turn;
  empty = ((λ d. absurd cc), half.empty.1);
}

pub half_of_up : (A B : SideRecord) (y : Session) → IsHalf B A → A.now.peer ≡ None
    → IsHalf B (going_up y A)
half_of_up A B y half down = record {
  rising = half.rising;
  proper = half.proper;
  hears = all-impl (IsHeardFrom A) (IsHeardFrom (going_up y A))
      (λ e h. heard-more A (going_up y A) e (λ z back. (pairs z e back, ([], said z))) h) (all B)
      half.hears;
  frees_closed = half.frees_closed;
  in_turn = half.in_turn;
  empty = half.empty;
}
  where
    said : (z : Session) → said_in (going_up y A) z ≡ said_in A z
    said z = elim (has_session z A.now) as (λ t. said_of
        (cond t (Some (record A.now { peer = Some y })) (first_match (has_session z) A.earlier))
        ≡ said_of (cond t (Some A.now) (first_match (has_session z) A.earlier))) [
          | true ↦
              refl
          | false ↦ refl
        ]

    -- a session that has a peer isn't the one that goes up
    pairs : (z : Session) (e : SessionRecord) → peer_in A z ≡ Some e.session
        → peer_in (going_up y A) z ≡ Some e.session
    pairs z e is = by_test (has_session z A.now) is
      where
        by_test : (t : Bool) → peer_of (cond t (Some A.now) (first_match (has_session z) A.earlier))
            ≡ Some e.session → peer_of (cond t (Some (record A.now { peer = Some y }))
            (first_match (has_session z) A.earlier)) ≡ Some e.session
        by_test true was = absurd cc
        by_test false was = was

-- BEGINNING a session above all before
pub half_beginning : (A B : SideRecord) (x : Session) → IsHalf A B
    → AllByRecursion (IsBelow x) (all A) → IsHalf (beginning x A) B
half_beginning A B x half above = record {
  rising = (above, half.rising);
  proper = (tt, half.proper);
  hears = (nothing_heard refl, half.hears);
  frees_closed = ((λ j is. absurd (true≢false (sym is))), half.frees_closed);
  in_turn = (tt, half.in_turn);
  empty = ((λ d. (refl, refl)), half.empty);
}

pub half_of_beginning : (A B : SideRecord) (x : Session) → IsHalf B A
    → AllByRecursion (IsBelow x) (all A) → IsHalf B (beginning x A)
half_of_beginning A B x half above = record {
  rising = half.rising;
  proper = half.proper;
  hears = all-impl (IsHeardFrom A) (IsHeardFrom (beginning x A))
      (λ e h. heard-more A (beginning x A) e (λ z back. kept z e back) h) (all B) half.hears;
  frees_closed = half.frees_closed;
  in_turn = half.in_turn;
  empty = half.empty;
}
  where
    kept : (z : Session) (e : SessionRecord) → peer_in A z ≡ Some e.session
        → (peer_in (beginning x A) z ≡ Some e.session)
        × ((more : List Said) × (said_in (beginning x A) z ≡ more ++ said_in A z))
    kept z e is = by_test (x.0 == z.0) refl
      where
        by_test : (t : Bool) → (x.0 == z.0) ≡ t → (peer_of
            (cond t (Some (fresh x)) (first_match (has_session z) (all A))) ≡ Some e.session)
            × ((more : List Said) × (said_of (cond t (Some (fresh x))
            (first_match (has_session z) (all A))) ≡ more ++ said_in A z))
        by_test false apart = (is, ([], refl))
        by_test true same =
            let alike : x ≡ z = ap (λ (k : ℕ). let w : Session = record { 0 = k } in
            w) (eqb-true x.0 z.0 same) in
            let none : peer_in A z ≡ None = ap peer_of
            (subst (λ (w : Session). first_match (has_session w) (all A) ≡ None) alike
            (none_such x (all A) above)) in
            absurd cc

-- TWO NEW SIDES
pub half_new : (x y : Session) → IsHalf (new_side x) (new_side y)
half_new x y = record {
  rising = (tt, tt);
  proper = (tt, tt);
  hears = (nothing_heard refl, tt);
  frees_closed = ((λ j is. absurd (true≢false (sym is))), tt);
  in_turn = (tt, tt);
  empty = ((λ down. (refl, refl)), tt);
}

-- A SEND of an incarnation that wasn't unpublished is proper
pub proper_sending : (A : SideRecord) (j b : Inc) (name : List ℕ) (note : SigNote)
    → IsProper A.now.said → was_unpublished j A.now.said ≡ false
    → IsProper (says_sending j name b note A ++ A.now.said)
proper_sending A j b name note proper not_yet = by_life (is_live j A.now.said) refl
  where
    by_life : (t : Bool) → is_live j A.now.said ≡ t
        → IsProper (signaled j b note ∷ cond t [] (published j name ∷ []) ++ A.now.said)
    by_life true e = (e, proper)
    by_life false e = (
      or_left (same_inc j j) (is_live j A.now.said) (same_inc-itself j),
      (
        false_from_ne_true (was_published j A.now.said) (λ was.
            true≢false (sym (published-live j A.now.said was not_yet) ∙ e)),
        proper,
      ),
    )
