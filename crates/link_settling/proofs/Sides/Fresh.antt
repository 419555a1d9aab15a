-- A side that isn't up, or that had at most one tick since it heard its peer, isn't lost by one
-- more.
use Rattle.std.proofs.Common.{◌≡◌, ◌⊎◌, ◌<◌, ◌≤◌, ℕ, Some, None, List, []}
use Rattle.std.proofs.Common.{refl, sym, subst, arith, inl, inr}
use Rattle.linx_base.specs.declared.frame.Message.{Message}
use Rattle.linx_base.specs.declared.identity.Session.{Session}
use Rattle.ethcm_headers.specs.declared.packets.Packet.{Packet}
use Rattle.ethcm_end.specs.States.{EndState, peer_of}
use Rattle.ethcm_end.specs.Rules.{input_of}
use Rattle.ethcm_end.proofs.ByRule.{by_rules, by_tick_rules}
use Rattle.carrier.specs.Records.{HalfState}
use Rattle.link_settling.proofs.Sides.HalfOpen.{offered_so}
use Rattle.link_settling.proofs.Sides.Joining.{ticks_upto}
use Rattle.link_settling.proofs.Flights.Steps.{Lasts, beaten, beaten_end, came, came_end, offered}

abbrev pub IsFresh : EndState → Type 0
IsFresh s = (peer_of s ≡ None) ⊎ (s.ticks < 2)

-- one that goes up has heard
fresh_up : (s : EndState) (p : Packet) → peer_of s ≡ None → IsFresh (input_of s p).state
fresh_up s p none =
    by_rules (λ r. IsFresh r.state) s p (record {
      connecting_connect = λ e k. inl e;
      connecting_connect_ack = λ e k d. inr (omega arith);
      connecting_ack = λ e k d. inr (omega arith);
      connecting_other = λ e x y z. inl e;
      up_lower = λ peer e l. absurd (grind arith);
      up_greater = λ peer e l. absurd (grind arith);
      up_connect = λ e k. absurd (grind arith);
      up_not_mine = λ e k d. absurd (grind arith);
      up_reset = λ between k. absurd (let is = between.from in grind arith);
      up_connect_ack = λ between k. absurd (let is = between.from in grind arith);
      up_ack = λ between k. absurd (let is = between.from in grind arith);
      frames_acked = λ next between k. absurd (let is = between.from in grind arith);
      frames_missed = λ next count between k. absurd (let is = between.from in grind arith);
      old = λ next seq frame between k l. absurd (let is = between.from in grind arith);
      early_again = λ next seq frame between k l q. absurd (let is = between.from in grind arith);
      early = λ next seq frame between k l q. absurd (let is = between.from in grind arith);
      taken = λ next frame between k m. absurd (let is = between.from in grind arith);
      taken_whole = λ next frame m between k w. absurd (let is = between.from in grind arith);
      taken_broken = λ next frame between k w. absurd (let is = between.from in grind arith);
    })

fresh_input : (s : EndState) (p : Packet) → IsFresh s → IsFresh (input_of s p).state
fresh_input s p (inl none) = fresh_up s p none
fresh_input s p (inr few) = let upto = ticks_upto s p in inr (omega arith)

fresh_came : (a : HalfState) (p : Packet) → IsFresh a.end → IsFresh (came a p).end
fresh_came a p h =
    subst (λ s. IsFresh s) (sym (came_end a p)) (fresh_input a.end p h)

fresh_offered : (a : HalfState) (m : Message) (peer : Session) → a.end.out ≡ []
    → peer_of a.end ≡ Some peer → IsFresh a.end → IsFresh (offered a m).end
fresh_offered a m peer out up h =
    let so = offered_so a m peer out up in
    elim h [
      | inl none ↦ absurd (grind arith)
      | inr few ↦ let same = so.ticks in inr (omega arith)
    ]

-- the other side is fresh, where so few ticks are left
abbrev pub FarFresh : ℕ → HalfState → HalfState → List Packet → List Packet → Type 0
FarFresh n a b there back = n ≤ 2 → IsFresh b.end

pub fresh_lasts : (n : ℕ) → Lasts (FarFresh n)
fresh_lasts n =
    record {
      near_came = λ a b there left p k now h. h;
      far_came = λ a b left back p k now h few. fresh_came b p (h few);
      near_offered = λ a b there back m peer e k now h. h;
      far_offered = λ a b there back m peer e k now h few.
          fresh_offered b m peer k.far.out e (h few);
    }

-- a side that is down, or heard since its last tick, is fresh after a tick
pub fresh_beaten : (a : HalfState) → (peer_of a.end ≡ None) ⊎ (a.end.ticks ≡ 0)
    → IsFresh (beaten a).end
fresh_beaten a h =
    subst (λ s. IsFresh s) (sym (beaten_end a))
    (by_tick_rules (λ r. IsFresh r.state) a.end (record {
      connecting = λ e. inl e;
      lost = λ peer e l. inl refl;
      again = λ peer e l some. elim h [
        | inl none ↦ absurd (grind arith)
        | inr none ↦ inr (omega arith)
      ];
      idle = λ peer e l none. elim h [
        | inl down ↦ absurd (grind arith)
        | inr zero ↦ inr (omega arith)
      ];
    }))
