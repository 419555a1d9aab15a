-- Ticks in any order: one of the side whose tick is next makes the ticks that are left one less,
-- and one of the other side makes them no more, while that side is fresh.
use Rattle.std.proofs.Common.{◌≡◌, ◌⊎◌, ◌<◌, ◌≤◌, ℕ, suc, Some, None, List, []}
use Rattle.std.proofs.Common.{sym, ap, ◌∙◌, arith, inl, inr}
use Rattle.std.proofs.lemmas.Bool.{cases_lt}
use Rattle.std.proofs.lemmas.Option.{same_Some}
use Rattle.linx_base.specs.declared.identity.Session.{Session}
use Rattle.ethcm_headers.specs.declared.packets.Packet.{Packet}
use Rattle.ethcm_end.specs.States.{peer_of}
use Rattle.carrier.specs.Records.{HalfState, mine_of}
use Rattle.link_settling.proofs.Sides.OneConnecting.{calling_over}
use Rattle.link_settling.proofs.Sides.Fresh.{IsFresh, fresh_beaten}
use Rattle.link_settling.proofs.Sides.HalfOpen.{Together, turned_together}
use Rattle.link_settling.proofs.Sides.Hearing.{Calm, HasHeard}
use Rattle.link_settling.proofs.Sides.Joining.{joining_over}
use Rattle.link_settling.proofs.Sides.Joining.Opening.{opens, opened}
use Rattle.link_settling.proofs.Ticks.TicksLeft.{Left, far_upto, from_any, from_connecting}
use Rattle.link_settling.proofs.Ticks.TicksLeft.{from_down, from_half, from_together, peer_either}
use Rattle.link_settling.proofs.Ticks.TicksLeft.{session_is}
use Rattle.link_settling.proofs.Ticks.TicksLeft.Left.{any, begun, calling, calm, ending, joining}
use Rattle.link_settling.proofs.Ticks.TicksLeft.Left.{opening, stale}
use Rattle.link_settling.proofs.Flights.Steps.{Holds, beaten, beaten_out, turned_holds}
use Rattle.link_settling.proofs.Ticks.OneTick.{tick_keeps, ticks_begun}

either_le : (n m : ℕ) → (n ≤ m) ⊎ (m < n)
either_le n m = grind arith

-- more ticks may be left
pub left_more : (n : ℕ) (a b : HalfState) (there back : List Packet) → Left n a b there back
    → Left (suc n) a b there back
left_more n a b there back (calm h) = calm h
left_more n a b there back (begun l h) = begun (omega arith) h
left_more n a b there back (joining l h) = joining (omega arith) h
left_more n a b there back (opening l h) = opening (omega arith) h
left_more n a b there back (calling l h) = calling (omega arith) h
left_more n a b there back (ending l h) = ending (omega arith) h
left_more n a b there back (stale l h) = stale (omega arith) h
left_more n a b there back (any l) = any (omega arith)

-- nothing is in flight, and side a's tick is next
module _ (n : ℕ) (a b : HalfState) (k : Holds a b [] []) where
  pub calm_heard : Calm a b [] [] → HasHeard a.end
  calm_heard h = elim h.begun.hearing [ inl did ↦ did | inr has ↦ absurd has ]

  -- side a is down, or heard since its last tick, where few ticks are left
  heard_or_down : Left (suc n) a b [] [] → n ≤ 2 → (peer_of a.end ≡ None) ⊎ (a.end.ticks ≡ 0)
  heard_or_down (calm h) few = inr (calm_heard h).ticks
  heard_or_down (begun l h) few =
      inr (elim h.hearing [ inl did ↦ did.ticks | inr has ↦ absurd has ])
  heard_or_down (joining l h) few = inr (joining_over a b h).ticks
  heard_or_down (opening l (opens h)) few = inl h.asks
  heard_or_down (opening l (opened h)) few = inr h.ticks
  heard_or_down (calling l h) few = inl (calling_over a b h).0
  heard_or_down (ending l h) few = absurd (omega arith)
  heard_or_down (stale l h) few = absurd (omega arith)
  heard_or_down (any l) few = absurd (omega arith)

  -- after its tick it is fresh
  pub useful_fresh : Left (suc n) a b [] [] → n ≤ 2 → IsFresh (beaten a).end
  useful_fresh h few = fresh_beaten a (heard_or_down h few)

  -- ---- a tick of side b, whose turn it isn't

  far_holds : Holds b a [] []
  far_holds = turned_holds a b [] [] k

  abbrev Extra : Type 0
  Extra = Left n a (beaten b) [] (beaten_out b)

  -- the two are up with each other
  extra_together : Together a b → 1 ≤ n → (n ≤ 2 → IsFresh b.end) → Extra
  extra_together t l fresh =
      let u : Together b a = turned_together a b t in
      elim (either_le 3 n) [
        | inl more ↦ from_together n b a far_holds more u
        | inr few ↦ elim (fresh (omega arith)) [
          | inl none ↦ absurd (let up = t.far in grind arith)
          | inr less ↦ begun l (ticks_begun b a far_holds u less)
        ]
      ]

  extra_calm : Calm a b [] [] → b.end.ticks < 2 → Extra
  extra_calm h less =
      let u : Together b a = turned_together a b h.order.together in
      let keeps = tick_keeps b a far_holds u less in
      calm (record {
        begun = ticks_begun b a far_holds u less;
        order = keeps.keeps h.order;
        confirmed = keeps.confirmed h.confirmed;
      })

  -- side a is connecting
  extra_ending : 4 ≤ n → peer_of a.end ≡ None → Extra
  extra_ending l none =
      elim (peer_either (peer_of b.end)) [
        | inl down ↦ from_connecting n b a far_holds (omega arith) down
        | inr up ↦
            let y : Session = up.0 in
            let upto = far_upto n a b k up.0 up.1 in
            elim (cases_lt up.0.0 (mine_of a)) [
              | inl less ↦ from_down n b a far_holds y up.1 (λ w e.
                  let same = ap (λ (x : Session). x.0) (same_Some y w (sym up.1 ∙ e)) in
                  inl (omega arith)) (λ w e. absurd (grind arith)) (omega arith) none
              | inr not_less ↦
                  let same : up.0 ≡ a.end.talk.mine =
                  session_is up.0 a.end.talk.mine (omega arith) in
                  from_half n b a far_holds (omega arith) (up.1 ∙ ap (λ x. Some x) same) none
            ]
      ]

  pub extra_ticked : Left n a b [] [] → (n ≤ 2 → IsFresh b.end) → Extra
  extra_ticked (calm h) fresh =
      elim (either_le 3 n) [
        | inl more ↦ extra_together h.order.together (omega arith) fresh
        | inr few ↦ elim (fresh (omega arith)) [
          | inl none ↦ absurd (let up = h.order.together.far in grind arith)
          | inr less ↦ extra_calm h less
        ]
      ]
  extra_ticked (begun l h) fresh =
      extra_together (turned_together b a h.order.together) l fresh
  extra_ticked (joining l h) fresh =
      extra_together (joining_over a b h).together (omega arith) fresh
  extra_ticked (opening l (opens h)) fresh = from_half n b a far_holds l h.is_up h.asks
  extra_ticked (opening l (opened h)) fresh = extra_together h.together (omega arith) fresh
  extra_ticked (calling l h) fresh =
      from_connecting n b a far_holds l (calling_over a b h).1
  extra_ticked (ending l h) fresh =
      elim h.ending [
        | inl none ↦ extra_ending l none
        | inr has ↦ absurd has
      ]
  extra_ticked (stale l h) fresh = from_any n b a far_holds l
  extra_ticked (any l) fresh = from_any n b a far_holds (omega arith)
