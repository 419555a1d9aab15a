-- What is kept of both sides in words tells what a trunk keeps of its record.
use Rattle.std.proofs.Common.{◌≡◌, ◌<◌, ℕ, suc, true, false, List, [], ◌∷◌, ◌++◌, Option, Some}
use Rattle.std.proofs.Common.{None, ◌⊎◌, inl, inr, map, arith, refl, sym, ◌∙◌, ap, subst, ◌==◌}
use Rattle.std.proofs.Common.{eq-eqb}
use Rattle.std.proofs.lemmas.Bool.Decides.{eqb_tells, nat_tests}
use Rattle.std.specs.List.{AllByRecursion}
use Rattle.linx_base.specs.FirstMatch.{first_match}
use Rattle.linx_base.specs.declared.identity.Session.{Session}
use Rattle.carrier.specs.Records.{names}
use Rattle.carrier.proofs.Fronts.{either, front_of_nil}
use Rattle.trunk_record.specs.Records.{has_session, peer_of, said_of}
use Rattle.trunk_record.specs.Sayings.{Given, IsProper, heard_as}
use Rattle.trunk_record.specs.Trunks.{AllFall, EmptyWhileDown, FreesClosed, IsGivenInTurn, IsHalf}
use Rattle.trunk_record.specs.Trunks.{IsHeardFrom, heard, nothing_heard}
use Rattle.trunk_record.proofs.Lists.{all-impl}
use Rattle.rlnh_laws.specs.Meanings.{saids}
use Rattle.rlnh_laws.specs.Ties.{Pair, Talk}
use Rattle.rlnh_laws.proofs.Speaking.{saids-append}
use Rattle.trunk.specs.Talks.{FallBelow, KeepsTalks, HoldAll, Holds, IsSoundSession}
use Rattle.trunk.specs.Talks.{Talks, all_talks, partner, record_of, side_record}
use Rattle.trunk.proofs.Sessions.Growing.{KeepBothTalks}
use Rattle.trunk.proofs.Sessions.Messages.{eq_turned}
use Rattle.trunk.proofs.Sessions.Partners.{down_partner, named, no_partner, nothing}

map_nil : (gs : List Given) → map heard_as gs ≡ [] → gs ≡ []
map_nil [] e = refl
map_nil (g ∷ gs) e = absurd cc

-- a session has a partner where the session of its peer's number names it, and no partner else
found : (e : Talk) (y : Session) (n : ℕ) (bs : List Talk) → FallBelow n bs → e.peer ≡ Some y
    → (partner e bs ≡ nothing)
    ⊎ ((peer_of (first_match (has_session y) (map record_of bs)) ≡ Some e.number)
    × (said_of (first_match (has_session y) (map record_of bs)) ≡ saids (partner e bs).words))
found e y n [] f is = inl refl
found e y n (b ∷ bs) f is =
    elim (eqb_tells b.number.0 y.0) [
      | inl same ↦
          let at : b.number.0 ≡ y.0 = same.1 in
          let test : (y.0 == b.number.0) ≡ true = grind (arith, nat_tests) in
          let itself : names y.0 e.peer ≡ true = rw is (eq-eqb y.0 y.0 refl) in
          elim (either (names e.number.0 b.peer)) [
            | inl on ↦
                let name = named e.number.0 b.peer on in
                let whole : b.peer ≡ Some e.number =
                name.1 ∙ ap Some (ap (λ (k : ℕ). let w : Session = record { 0 = k } in w) name.2)
                in
                inr (rw same.0 whole, rw (same.0, is, test, on) refl)
            | inr off ↦
                inl (rw (is, test, off) (no_partner e y.0 b.number.0 bs itself f.1 (omega arith)))
          ]
      | inr other ↦
          let test : (y.0 == b.number.0) ≡ false = eq_turned b.number.0 y.0 false other.0 in
          elim (found e y b.number.0 bs f.1 is) [
            | inl none ↦ inl (rw (is, test) none)
            | inr some ↦ inr (rw other.0 some.0, rw (other.0, is, test) some.1)
          ]
    ]

-- what was given is what was heard, which is a front of what was said
heard_from : (e : Talk) (A B : Talks) → KeepsTalks B A → Holds (all_talks B) e
    → IsHeardFrom (side_record B) (record_of e)
heard_from e A B far h = by_peer e.peer refl
  where
    nothing_given : partner e (all_talks B) ≡ nothing → e.given ≡ []
    nothing_given none =
        let p : Pair e nothing = subst (λ f. Pair e f) none h.pair in
        let heard_none : e.heard ≡ [] = front_of_nil e.heard p.back p.back_is in
        map_nil e.given (h.alone.given ∙ ap saids heard_none)

    by_peer : (o : Option Session) → e.peer ≡ o → IsHeardFrom (side_record B) (record_of e)
    by_peer None is = nothing_heard (nothing_given (down_partner e (all_talks B) is))
    by_peer (Some y) is =
        elim (found e y (suc B.now.number.0) (all_talks B) (omega arith, far.falls) is) [
          | inl none ↦ nothing_heard (nothing_given none)
          | inr some ↦
              let p = h.pair in
              heard y is some.0 (saids p.back)
              (some.1 ∙ ap saids p.back_is ∙ saids-append e.heard p.back
              ∙ ap (λ k. saids p.back ++ k) (sym h.alone.given))
        ]

falls_all : (n : ℕ) (es : List Talk) → FallBelow n es
    → AllByRecursion (λ r. r.session.0 < n) (map record_of es) × AllFall (map record_of es)
falls_all n [] f = (tt, tt)
falls_all n (e ∷ es) f =
    let rest = falls_all e.number.0 es f.1 in
    let below = f.0 in
    let later = all-impl (λ r. r.session.0 < e.number.0) (λ r. r.session.0 < n)
    (λ r at. omega arith) (map record_of es) rest.0 in
    ((below, later), rest)

module _ (A B : Talks) (far : KeepsTalks B A) where
  all_proper : (es : List Talk) → HoldAll (all_talks B) es
      → AllByRecursion (λ r. IsProper r.said) (map record_of es)
  all_proper [] h = tt
  all_proper (e ∷ es) h = (h.0.alone.speaks.proper, all_proper es h.1)

  all_heard : (es : List Talk) → HoldAll (all_talks B) es
      → AllByRecursion (IsHeardFrom (side_record B)) (map record_of es)
  all_heard [] h = tt
  all_heard (e ∷ es) h = (heard_from e A B far h.0, all_heard es h.1)

  all_frees : (es : List Talk) → HoldAll (all_talks B) es
      → AllByRecursion FreesClosed (map record_of es)
  all_frees [] h = tt
  all_frees (e ∷ es) h = (h.0.alone.frees_closed, all_frees es h.1)

  all_empty : (es : List Talk) → HoldAll (all_talks B) es
      → AllByRecursion EmptyWhileDown (map record_of es)
  all_empty [] h = tt
  all_empty (e ∷ es) h = (
    (λ down. (ap saids (h.0.blank down).words, (h.0.blank down).given)),
    all_empty es h.1,
  )

all_in_turn : (es : List Talk) → AllByRecursion IsSoundSession es
    → AllByRecursion IsGivenInTurn (map record_of es)
all_in_turn [] h = tt
all_in_turn (e ∷ es) h = (h.0.in_turn, all_in_turn es h.1)

pub half_record : (A B : Talks) → KeepBothTalks A B → AllByRecursion IsSoundSession (all_talks A)
    → IsHalf (side_record A) (side_record B)
half_record A B k sound =
    record {
      rising = falls_all A.now.number.0 A.earlier k.near.falls;
      proper = all_proper A B k.far (all_talks A) k.near.holds;
      hears = all_heard A B k.far (all_talks A) k.near.holds;
      frees_closed = all_frees A B k.far (all_talks A) k.near.holds;
      in_turn = all_in_turn (all_talks A) sound;
      empty = all_empty A B k.far (all_talks A) k.near.holds;
    }
