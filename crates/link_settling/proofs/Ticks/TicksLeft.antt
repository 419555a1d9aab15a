-- How many ticks are left at most, by where the two sides stand and what is in flight between them.
-- Side a is the one whose tick is next.
use Rattle.std.proofs.Common.{◌≡◌, ◌⊎◌, ◌<◌, ◌≤◌, ℕ, suc, true, false, Option, Some, None, List, []}
use Rattle.std.proofs.Common.{◌∷◌, ◌++◌, length, refl, sym, ap, ◌∙◌, arith, inl, inr}
use Rattle.std.proofs.lemmas.Bool.{cases_lt}
use Rattle.std.proofs.lemmas.Option.{same_Some}
use Rattle.linx_base.specs.declared.identity.Session.{Session}
use Rattle.ethcm_headers.specs.declared.packets.Packet.{Packet}
use Rattle.ethcm_session.specs.Table.{is_confirmed_in}
use Rattle.ethcm_end.specs.States.{EndState, has_work_in, peer_of}
use Rattle.carrier.specs.Records.{HalfState, mine_of}
use Rattle.link_settling.proofs.Sides.Apart.{Ending, IsStrange, Stale, ending_lasts, peer_upto}
use Rattle.link_settling.proofs.Sides.Apart.{stale_lasts}
use Rattle.link_settling.proofs.Sides.OneConnecting.{Calling, calling_lasts, calling_over}
use Rattle.link_settling.proofs.Flights.Flows.{flows_over}
use Rattle.link_settling.proofs.Sides.HalfOpen.{Together}
use Rattle.link_settling.proofs.Sides.Hearing.{Begun, Calm, HasHeard, begun_lasts, calm_lasts}
use Rattle.link_settling.proofs.Sides.Joining.{Joining, Opening, joining_lasts, joining_over}
use Rattle.link_settling.proofs.Sides.Joining.{opening_lasts}
use Rattle.link_settling.proofs.Sides.Joining.Opening.{opens, opened}
use Rattle.link_settling.proofs.Flights.Steps.{Holds, Lasts, beaten, beaten_out, came, came_out}
use Rattle.link_settling.proofs.Flights.Steps.{offered, offered_out}
use Rattle.link_settling.proofs.Ticks.OneTick.{ticks_asked, ticks_begun, ticks_calls, ticks_calm}
use Rattle.link_settling.proofs.Ticks.OneTick.{ticks_ending, ticks_ending_down, ticks_lifts}
use Rattle.link_settling.proofs.Ticks.OneTick.{ticks_opens, ticks_silent, ticks_stale}

pub data Left (n : ℕ) (a b : HalfState) (there back : List Packet) : Type 0 where
  -- both directions are in order, and both sides are or will be confirmed
  calm : Calm a b there back → Left n a b there back
  -- the direction of side b is in order, and side a hears of it
  begun : 1 ≤ n → Begun a b there back → Left n a b there back
  -- they are or will be up with each other
  joining : 2 ≤ n → Joining a b there back → Left n a b there back
  -- side b is up with side a
  opening : 3 ≤ n → Opening a b there back → Left n a b there back
  -- both are or will be connecting
  calling : 3 ≤ n → Calling a b there back → Left n a b there back
  -- side a is or will be connecting
  ending : 4 ≤ n → Ending a b there back → Left n a b there back
  -- side b is connecting, or up with an earlier session
  stale : 5 ≤ n → Stale a b there back → Left n a b there back
  -- whatever happened
  any : 6 ≤ n → Left n a b there back

-- ---- they don't become more as packets come and messages are offered

-- what each of these keeps, they keep
left_after : (n : ℕ) (a b c d : HalfState) (there back sent answered : List Packet)
    → ((C : HalfState → HalfState → List Packet → List Packet → Type 0) → Lasts C
    → C a b there back → C c d sent answered)
    → Left n a b there back → Left n c d sent answered
left_after n a b c d there back sent answered keep (calm h) = calm (keep Calm calm_lasts h)
left_after n a b c d there back sent answered keep (begun l h) =
    begun l (keep Begun begun_lasts h)
left_after n a b c d there back sent answered keep (joining l h) =
    joining l (keep Joining joining_lasts h)
left_after n a b c d there back sent answered keep (opening l h) =
    opening l (keep Opening opening_lasts h)
left_after n a b c d there back sent answered keep (calling l h) =
    calling l (keep Calling calling_lasts h)
left_after n a b c d there back sent answered keep (ending l h) =
    ending l (keep Ending ending_lasts h)
left_after n a b c d there back sent answered keep (stale l h) =
    stale l (keep Stale stale_lasts h)
left_after n a b c d there back sent answered keep (any l) = any l

pub left_lasts : (n : ℕ) → Lasts (λ a b there back. Left n a b there back)
left_lasts n =
    record {
      near_came = λ a b there left p k now.
          left_after n a b (came a p) b there (p ∷ left) (there ++ came_out a p) left
          (λ C lasts. lasts.near_came a b there left p k now);
      far_came = λ a b left back p k now.
          left_after n a b a (came b p) (p ∷ left) back left (back ++ came_out b p)
          (λ C lasts. lasts.far_came a b left back p k now);
      near_offered = λ a b there back m peer e k now.
          left_after n a b (offered a m) b there back (there ++ offered_out a m) back
          (λ C lasts. lasts.near_offered a b there back m peer e k now);
      far_offered = λ a b there back m peer e k now.
          left_after n a b a (offered b m) there back there (back ++ offered_out b m)
          (λ C lasts. lasts.far_offered a b there back m peer e k now);
    }

-- ---- a tick while nothing is in flight makes them one less

pub peer_either : (peer : Option Session) → (peer ≡ None) ⊎ ((y : Session) × (peer ≡ Some y))
peer_either None = inl refl
peer_either (Some y) = inr (y, refl)

pub session_is : (x y : Session) → x.0 ≡ y.0 → x ≡ y
session_is x y e = ap (λ n. record { 0 = n }) e

module _ (n : ℕ) (a b : HalfState) (k : Holds a b [] []) where
  -- what is to be shown: side a ticks, and side b is next
  abbrev Next : Type 0
  Next = Left n b (beaten a) [] (beaten_out a)

  pub near_upto : (y : Session) → peer_of a.end ≡ Some y → y.0 ≤ mine_of b
  near_upto = peer_upto k.piece a b [] [] k.near k.far

  pub far_upto : (y : Session) → peer_of b.end ≡ Some y → y.0 ≤ mine_of a
  far_upto = peer_upto k.piece b a [] [] k.far k.near

  -- side a is connecting
  pub from_connecting : 3 ≤ n → peer_of a.end ≡ None → Next
  from_connecting l none =
      elim (peer_either (peer_of b.end)) [
        | inl far ↦ joining (omega arith) (ticks_asked a b k.near.out none far)
        | inr far ↦
            let upto = far_upto far.0 far.1 in
            elim (cases_lt far.0.0 (mine_of a)) [
              | inl less ↦ calling l (ticks_calls a b k.near.out none far.0 far.1 less)
              | inr not_less ↦
                  let same : far.0 ≡ a.end.talk.mine =
                  session_is far.0 a.end.talk.mine (omega arith) in
                  joining (omega arith) (ticks_lifts a b k.near.out none
                  (far.1 ∙ ap (λ x. Some x) same))
            ]
      ]

  -- side a is up with the present session of side b, and both are up with each other or side b is
  -- connecting
  pub from_together : 3 ≤ n → Together a b → Next
  from_together l t =
      elim (cases_lt a.end.ticks 2) [
        | inl few ↦ begun (omega arith) (ticks_begun a b k t few)
        | inr last ↦ calling l (ticks_silent a b k.near.out t.near last (inl t.far))
      ]

  pub from_half : 3 ≤ n → peer_of a.end ≡ Some b.end.talk.mine → peer_of b.end ≡ None → Next
  from_half l up none =
      elim (cases_lt a.end.ticks 2) [
        | inl few ↦ opening l (ticks_opens a b k up none few)
        | inr last ↦ calling l (ticks_silent a b k.near.out up last (inr none))
      ]

  -- side a is up, and the two are apart
  module _ (y : Session) (up : peer_of a.end ≡ Some y) (near : IsStrange a.end.talk b.end.talk)
      (far : IsStrange b.end.talk a.end.talk) where
    pub from_down : 4 ≤ n → peer_of b.end ≡ None → Next
    from_down l none = ending l (ticks_ending_down a b k y up near far none)

    from_earlier : 4 ≤ n → (z : Session) → peer_of b.end ≡ Some z → z.0 < mine_of a → Next
    from_earlier l z e less = ending l (ticks_ending a b k y up near far z e less)

    from_apart : 4 ≤ n → ((z : Session) → peer_of b.end ≡ Some z → z.0 < mine_of a) → Next
    from_apart l earlier =
        elim (peer_either (peer_of b.end)) [
          | inl none ↦ from_down l none
          | inr is ↦ from_earlier l is.0 is.1 (earlier is.0 is.1)
        ]

  -- both are up
  from_both : 5 ≤ n → (y : Session) → peer_of a.end ≡ Some y → (z : Session)
      → peer_of b.end ≡ Some z → Next
  from_both l y up z e =
      let near_most = near_upto y up in
      let far_most = far_upto z e in
      elim (cases_lt z.0 (mine_of a)) [
        | inl less ↦ from_earlier y up (λ w q. inr (z, e, less)) (λ w q.
            let same = ap (λ (x : Session). x.0) (same_Some z w (sym e ∙ q)) in
            inl (omega arith)) (omega arith) z e less
        | inr not_less ↦ elim (cases_lt y.0 (mine_of b)) [
          | inl less ↦ stale l (ticks_stale a b k y up (λ w q.
              let same = ap (λ (x : Session). x.0) (same_Some y w (sym up ∙ q)) in
              inl (omega arith)) (λ w q. inr (y, up, less)) less)
          | inr same ↦
              let near : y ≡ b.end.talk.mine = session_is y b.end.talk.mine (omega arith) in
              let far : z ≡ a.end.talk.mine = session_is z a.end.talk.mine (omega arith) in
              from_together (omega arith) (record {
                near = up ∙ ap (λ x. Some x) near;
                far = e ∙ ap (λ x. Some x) far;
              })
        ]
      ]

  -- whatever happened
  pub from_any : 5 ≤ n → Next
  from_any l =
      elim (peer_either (peer_of a.end)) [
        | inl none ↦ from_connecting (omega arith) none
        | inr near ↦
            let y : Session = near.0 in
            let upto = near_upto near.0 near.1 in
            elim (peer_either (peer_of b.end)) [
              | inl none ↦ elim (cases_lt near.0.0 (mine_of b)) [
                | inl less ↦ from_down near.0 near.1 (λ w e.
                    let same = ap (λ (x : Session). x.0) (same_Some y w (sym near.1 ∙ e)) in
                    inl (omega arith)) (λ w e. absurd (grind arith)) (omega arith) none
                | inr not_less ↦
                    let same : near.0 ≡ b.end.talk.mine =
                    session_is near.0 b.end.talk.mine (omega arith) in
                    from_half (omega arith) (near.1 ∙ ap (λ x. Some x) same) none
              ]
              | inr far ↦ from_both l near.0 near.1 far.0 far.1
            ]
      ]

  pub left_ticked : Left (suc n) a b [] [] → Next
  left_ticked (calm h) = calm (ticks_calm a b k h.begun)
  left_ticked (begun l h) = calm (ticks_calm a b k h)
  left_ticked (joining l h) =
      let over = joining_over a b h in
      let none = over.ticks in
      begun (omega arith) (ticks_begun a b k over.together (omega arith))
  left_ticked (opening l (opens h)) =
      joining (omega arith) (ticks_lifts a b k.near.out h.asks h.is_up)
  left_ticked (opening l (opened h)) =
      let none = h.ticks in
      begun (omega arith) (ticks_begun a b k h.together (omega arith))
  left_ticked (calling l h) =
      let over = calling_over a b h in
      joining (omega arith) (ticks_asked a b k.near.out over.0 over.1)
  left_ticked (ending l h) =
      elim h.ending [
        | inl none ↦ from_connecting (omega arith) none
        | inr has ↦ absurd has
      ]
  left_ticked (stale l h) =
      elim (peer_either (peer_of a.end)) [
        | inl none ↦ from_connecting (omega arith) none
        | inr is ↦ from_apart is.0 is.1 h.apart.near_strange h.apart.far_strange (omega arith)
            h.earlier
      ]
  left_ticked (any l) = from_any (omega arith)

-- ---- where none is left and nothing is in flight, no end has work

no_work : (s : EndState) → is_confirmed_in s.talk.standing ≡ true → length s.tx.frames ≡ 0
    → has_work_in s ≡ false
no_work s confirmed none = rw (confirmed, none) refl

pub left_none : (a b : HalfState) → Holds a b [] [] → Left 0 a b [] []
    → (has_work_in a.end ≡ false) × (has_work_in b.end ≡ false)
left_none a b k (calm h) =
    let did : HasHeard a.end = elim h.begun.hearing [ inl did ↦ did | inr has ↦ absurd has ] in (
      no_work a.end did.confirmed
          (flows_over a.end.tx b.end.rx.expected k.near.window h.order.flows),
      no_work b.end h.confirmed
          (flows_over b.end.tx a.end.rx.expected k.far.window h.begun.order.flows),
    )
left_none a b k (begun l h) = absurd (omega arith)
left_none a b k (joining l h) = absurd (omega arith)
left_none a b k (opening l h) = absurd (omega arith)
left_none a b k (calling l h) = absurd (omega arith)
left_none a b k (ending l h) = absurd (omega arith)
left_none a b k (stale l h) = absurd (omega arith)
left_none a b k (any l) = absurd (omega arith)
