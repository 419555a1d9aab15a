-- What each event makes of the window.
use Rattle.std.proofs.Common.{◌≡◌, ◌⊎◌, Some, None, refl, ap, ◌∙◌, arith, inl, inr, ℕ}
use Rattle.linx_base.specs.declared.identity.Session.{Session}
use Rattle.linx_base.specs.declared.frame.Message.{Message}
use Rattle.ethcm_headers.specs.declared.packets.Packet.{Packet}
use Rattle.ethcm_headers.specs.declared.packets.Part.{Part}
use Rattle.ethcm_session.specs.declared.standing.Standing.{Standing}
use Rattle.ethcm_session.specs.declared.standing.Standing.TheVariants.{Connecting, Up}
use Rattle.ethcm_session.specs.Table.{standing_peer}
use Rattle.ethcm_window.specs.Sending.{after_ack, with_frames}
use Rattle.fragmenter.specs.Pieces.{pieces_of}
use Rattle.ethcm_end.specs.States.{EndState, peer_of}
use Rattle.ethcm_end.specs.Rules.{input_of, offer_in, offer_of, tick_of}
use Rattle.ethcm_end.specs.Rows.{IsBetween}
use Rattle.ethcm_end.proofs.ByRule.{by_rules, by_tick_rules}
use Rattle.ethcm_end.specs.Sessions.{IsAnew}
use Rattle.ethcm_end.specs.Windows.{Acknowledges, WindowsMove, acknowledged_in}
use Rattle.ethcm_end.proofs.Rising.{begins}

abbrev Moves : EndState → Packet → EndState → Type 0
Moves s p new = (new.tx ≡ s.tx) ⊎ (IsAnew new ⊎ Acknowledges s p new)

-- a packet acknowledges frames
acks : (s : EndState) (p : Packet) (new : EndState) → IsBetween s p → (part : Part)
    → p.part ≡ part → (next : ℕ) → acknowledged_in part ≡ Some next
    → new.tx ≡ after_ack s.tx next → Moves s p new
acks s p new b part k next names window =
    inr (inr (record {
      between = b;
      next = next;
      names = ap acknowledged_in k ∙ names;
      window = window;
    }))

input_moves : (s : EndState) (p : Packet) → Moves s p (input_of s p).state
input_moves s p =
    by_rules (λ r. Moves s p r.state) s p (record {
      connecting_connect = λ e k. inl refl;
      connecting_connect_ack = λ e k d. inr (inl (begins _ refl refl refl refl refl));
      connecting_ack = λ e k d. inr (inl (begins _ refl refl refl refl refl));
      connecting_other = λ e a b c. inl refl;
      up_lower = λ peer e h. inl refl;
      up_greater = λ peer e h. inr (inl (begins _ refl refl refl refl refl));
      up_connect = λ e k. inl refl;
      up_not_mine = λ e k d. inl refl;
      up_reset = λ b k. inr (inl (begins _ refl refl refl refl refl));
      up_connect_ack = λ b k. inl refl;
      up_ack = λ b k. inl refl;
      frames_acked = λ next b k. acks s p _ b _ k next refl refl;
      frames_missed = λ next count b k. acks s p _ b _ k next refl refl;
      old = λ next seq frame b k h. acks s p _ b _ k next refl refl;
      early_again = λ next seq frame b k h a. acks s p _ b _ k next refl refl;
      early = λ next seq frame b k h a. acks s p _ b _ k next refl refl;
      taken = λ next frame b k m. acks s p _ b _ k next refl refl;
      taken_whole = λ next frame m b k w. acks s p _ b _ k next refl refl;
      taken_broken = λ next frame b k w. inr (inl (begins _ refl refl refl refl refl));
    })

tick_moves : (s : EndState) → ((tick_of s).state.tx ≡ s.tx) ⊎ IsAnew (tick_of s).state
tick_moves s =
    by_tick_rules (λ r. (r.state.tx ≡ s.tx) ⊎ IsAnew r.state) s (record {
      connecting = λ e. inl refl;
      lost = λ peer e h. inr (begins _ refl refl refl refl refl);
      again = λ peer e h q. inl refl;
      idle = λ peer e h q. inl refl;
    })

offer_in_moves : (s : EndState) (standing : Standing) (m : Message) (peer : Session)
    → standing_peer standing ≡ Some peer
    → (offer_in s standing m).tx ≡ with_frames s.tx (pieces_of m s.piece)
offer_in_moves s Connecting m peer e = absurd (grind arith)
offer_in_moves s (Up other confirmed) m peer e = refl

offer_moves : (s : EndState) (m : Message) (peer : Session) → peer_of s ≡ Some peer
    → (offer_of s m).tx ≡ with_frames s.tx (pieces_of m s.piece)
unfolding offer_of
offer_moves s m peer e = offer_in_moves s s.talk.standing m peer e

offer_in_stays : (s : EndState) (standing : Standing) (m : Message) → standing_peer standing ≡ None
    → offer_in s standing m ≡ s
offer_in_stays s Connecting m e = refl
offer_in_stays s (Up peer confirmed) m e = absurd (grind arith)

offer_stays : (s : EndState) (m : Message) → peer_of s ≡ None → offer_of s m ≡ s
unfolding offer_of
offer_stays s m e = offer_in_stays s s.talk.standing m e

pub windows_move : WindowsMove
windows_move =
    record {
      input = input_moves;
      tick = tick_moves;
      offer = offer_moves;
      offer_connecting = offer_stays;
    }
