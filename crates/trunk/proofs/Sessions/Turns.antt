-- What is kept of all sessions of both sides where a side goes up and where a session begins.
use Rattle.std.proofs.Common.{◌≡◌, ◌≢◌, ◌<◌, true, false, List, [], ◌∷◌, Some, None, inl, inr}
use Rattle.std.proofs.Common.{arith, refl, sym, ap, subst}
use Rattle.std.proofs.Math.Bool.{and_comm}
use Rattle.std.proofs.lemmas.Bool.{and_parts}
use Rattle.linx_base.specs.declared.identity.Session.{Session}
use Rattle.carrier.specs.Records.{names}
use Rattle.carrier.proofs.Fronts.{either}
use Rattle.rlnh_end.specs.States.{no_tables}
use Rattle.rlnh_end.specs.Words.{hello}
use Rattle.rlnh_end.specs.Calls.{begin_of}
use Rattle.rlnh_laws.specs.Ties.{Pair, Talk}
use Rattle.rlnh_laws.specs.Talks.{said_more}
use Rattle.rlnh_laws.proofs.Uttering.{utter_grows}
use Rattle.trunk.specs.Talks.{FallBelow, HoldAll, IsBlank, Talks, all_talks, fresh_talk, is_peer}
use Rattle.trunk.specs.Talks.{partner}
use Rattle.trunk.proofs.Sessions.Growing.{KeepBothTalks, both_says, with_now}
use Rattle.trunk.proofs.Sessions.Partners.{alone_fresh, holds_with, no_partner, nothing, pair_blank}
use Rattle.trunk.proofs.Sessions.Partners.{pair_fresh, pair_sym, down_partner}

-- a session went up
abbrev pub up_with : Talk → Session → Talk
up_with e y = record e { peer = Some y }

-- the present session ended, and another one began
abbrev pub next_talks : Talks → Session → Talks
next_talks A x = record { now = fresh_talk x; earlier = all_talks A }

-- ---- a new session

far_next : (x : Session) (es bs : List Talk) → HoldAll es bs → HoldAll (fresh_talk x ∷ es) bs
far_next x es [] h = tt
far_next x es (t ∷ bs) h =
    let off : is_peer t (fresh_talk x) ≡ false = and_comm (names x.0 t.peer) false in
    (holds_with es (fresh_talk x ∷ es) t h.0 (rw off h.0.pair), far_next x es bs h.1)

pub both_next : (A B : Talks) (x : Session) → KeepBothTalks A B → A.now.number.0 < x.0
    → KeepBothTalks (next_talks A x) B
both_next A B x k above =
    record {
      near =
          record {
            falls = (above, k.near.falls);
            holds = (
              record {
                alone = alone_fresh x;
                pair = subst (λ f. Pair (fresh_talk x) f)
                    (sym (down_partner (fresh_talk x) (all_talks B) refl))
                    (pair_fresh x (record { 0 = 0 }));
                blank = λ none. record { words = refl; heard = refl; given = refl; end = refl };
              },
              k.near.holds,
            );
          };
      far =
          record {
            falls = k.far.falls;
            holds = far_next x (all_talks A) (all_talks B) k.far.holds;
          };
    }

-- ---- going up

blank_up : (e : Talk) (y : Session) → IsBlank e → IsBlank (up_with e y)
blank_up e y b = record { words = b.words; heard = b.heard; given = b.given; end = b.end }

-- a session that went up is what nothing was, to one that names it
module _ (e : Talk) (y : Session) (past : List Talk) (down : e.peer ≡ None) (b : IsBlank e)
    (falls : FallBelow e.number.0 past) where
  blank_now : IsBlank (up_with e y)
  blank_now = blank_up e y b

  -- before, a session of the other side had another partner
  before : (t : Talk) → Pair t (partner t (e ∷ past)) → Pair t (partner t past)
  before t p =
      let apart : is_peer t e ≡ false = rw down (and_comm (names e.number.0 t.peer) false) in
      rw apart at p

  -- one that names it had none
  pair_up : (t : Talk) → names e.number.0 t.peer ≡ true → Pair t (partner t (e ∷ past))
      → Pair t (up_with e y)
  pair_up t at p = pair_blank t (up_with e y) blank_now
      (subst (λ g. Pair t g) (no_partner t e.number.0 e.number.0 past at falls (omega arith))
      (before t p))

  pub far_up : (bs : List Talk) → HoldAll (e ∷ past) bs → HoldAll (up_with e y ∷ past) bs
  far_up [] h = tt
  far_up (t ∷ bs) h = (
    holds_with (e ∷ past) (up_with e y ∷ past) t h.0
        (elim (either (is_peer t (up_with e y))) [
          | inl on ↦
              let at : names e.number.0 t.peer ≡ true =
              (and_parts (names e.number.0 t.peer) (names t.number.0 (Some y)) on).0 in
              rw on (pair_up t at h.0.pair)
          | inr off ↦ rw off (before t h.0.pair)
        ]),
    far_up bs h.1,
  )

  pub near_up : (fs : List Talk) → HoldAll (e ∷ past) fs
      → Pair (up_with e y) (partner (up_with e y) fs)
  near_up [] h = pair_sym nothing (up_with e y) (pair_blank nothing (up_with e y) blank_now
      (pair_fresh (record { 0 = 0 }) (record { 0 = 0 })))
  near_up (t ∷ fs) h =
      elim (either (is_peer (up_with e y) t)) [
        | inl on ↦
            let at : names e.number.0 t.peer ≡ true =
            (and_parts (names t.number.0 (Some y)) (names e.number.0 t.peer) on).1 in
            rw on (pair_sym t (up_with e y) (pair_up t at h.0.pair))
        | inr off ↦ rw off (near_up fs h.1)
      ]

pub both_up : (A B : Talks) (y : Session) → KeepBothTalks A B → A.now.peer ≡ None
    → KeepBothTalks (with_now A (up_with A.now y)) B
both_up A B y k down =
    let h = k.near.holds.0 in
    let b = h.blank down in
    record {
      near =
          record {
            falls = k.near.falls;
            holds = (
              record {
                alone =
                    record {
                      speaks = h.alone.speaks;
                      apart = h.alone.apart;
                      given = h.alone.given;
                      frees_closed = h.alone.frees_closed;
                    };
                pair = near_up A.now y A.earlier down b k.near.falls (all_talks B) k.far.holds;
                blank = λ none. absurd cc;
              },
              k.near.holds.1,
            );
          };
      far =
          record {
            falls = k.far.falls;
            holds = far_up A.now y A.earlier down b k.near.falls (all_talks B) k.far.holds;
          };
    }

some_is : (y : Session) → Some y ≢ None
some_is y e = absurd cc

-- and it says hello
pub both_begin : (A B : Talks) (y : Session) → KeepBothTalks A B → A.now.peer ≡ None
    → KeepBothTalks (with_now A (said_more (up_with A.now y) begin_of)) B
both_begin A B y k down =
    let up = both_up A B y k down in
    let e = up_with A.now y in
    let b = k.near.holds.0.blank down in
    both_says (with_now A e) B (said_more e begin_of) up
    (utter_grows e no_tables hello (sym (ap (λ s. s.own) b.end), sym (ap (λ s. s.met) b.end))
    up.near.holds.0.alone)
    (some_is y)
