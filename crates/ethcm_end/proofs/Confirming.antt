-- An end is confirmed by its peer alone.
use Rattle.std.proofs.Common.{◌≡◌, ◌⊎◌, true, Some, None, refl, ap, ◌∙◌, inl, inr}
use Rattle.linx_base.specs.declared.frame.Message.{Message}
use Rattle.ethcm_headers.specs.declared.packets.Packet.{Packet}
use Rattle.ethcm_headers.specs.declared.packets.Part.{Part}
use Rattle.ethcm_session.specs.declared.standing.Standing.{Standing}
use Rattle.ethcm_session.specs.declared.standing.Standing.TheVariants.{Connecting, Up}
use Rattle.ethcm_session.specs.Table.{is_confirmed_in}
use Rattle.ethcm_end.specs.States.{EndState, peer_of}
use Rattle.ethcm_end.specs.Rules.{input_of, kind_in, offer_in, offer_of, tick_of}
use Rattle.ethcm_end.specs.Rows.{IsBetween}
use Rattle.ethcm_end.proofs.ByRule.{by_rules, by_tick_rules}
use Rattle.ethcm_end.specs.Sessions.{Confirms, PeersConfirm}

-- where the end is confirmed afterwards, it was so, or the packet confirms it
abbrev IsBy : EndState → Packet → EndState → Type 0
IsBy s p new =
    is_confirmed_in new.talk.standing ≡ true → (new.talk ≡ s.talk) ⊎ Confirms s p new

-- data, an ACK or a NACK of frames
framed : (s new : EndState) (p : Packet) → IsBetween s p → peer_of new ≡ Some p.src
    → (part : Part) → p.part ≡ part → kind_in part ≡ None → IsBy s p new
framed s new p b from part e none =
    λ c. inr (record { to = b.to; from = from; part = inr (ap kind_in e ∙ none) })

input_confirms : (s : EndState) (p : Packet) → IsBy s p (input_of s p).state
input_confirms s p =
    by_rules (λ r. IsBy s p r.state) s p (record {
      connecting_connect = λ e k c. inl refl;
      connecting_connect_ack = λ e k d c. absurd cc;
      connecting_ack = λ e k d c. inr (record { to = d; from = refl; part = inl k });
      connecting_other = λ e x y z c. inl refl;
      up_lower = λ peer e h c. inl refl;
      up_greater = λ peer e h c. absurd cc;
      up_connect = λ e k c. inl refl;
      up_not_mine = λ e k d c. inl refl;
      up_reset = λ b k c. absurd cc;
      up_connect_ack = λ b k c. inl refl;
      up_ack = λ b k c. inr (record { to = b.to; from = refl; part = inl k });
      frames_acked = λ next b k. framed s _ p b refl _ k refl;
      frames_missed = λ next count b k. framed s _ p b refl _ k refl;
      old = λ next seq frame b k h. framed s _ p b refl _ k refl;
      early_again = λ next seq frame b k h a. framed s _ p b refl _ k refl;
      early = λ next seq frame b k h a. framed s _ p b refl _ k refl;
      taken = λ next frame b k m. framed s _ p b refl _ k refl;
      taken_whole = λ next frame m b k w. framed s _ p b refl _ k refl;
      taken_broken = λ next frame b k w c. absurd cc;
    })

tick_confirms : (s : EndState) → is_confirmed_in (tick_of s).state.talk.standing ≡ true
    → (tick_of s).state.talk ≡ s.talk
tick_confirms s =
    by_tick_rules
    (λ r. is_confirmed_in r.state.talk.standing ≡ true → r.state.talk ≡ s.talk) s (record {
      connecting = λ e c. refl;
      lost = λ peer e h c. absurd cc;
      again = λ peer e h q c. refl;
      idle = λ peer e h q c. refl;
    })

offer_in_talks : (s : EndState) (standing : Standing) (m : Message)
    → (offer_in s standing m).talk ≡ s.talk
offer_in_talks s Connecting m = refl
offer_in_talks s (Up peer confirmed) m = refl

offer_talks : (s : EndState) (m : Message) → (offer_of s m).talk ≡ s.talk
unfolding offer_of
offer_talks s m = offer_in_talks s s.talk.standing m

pub peers_confirm : PeersConfirm
peers_confirm = record { input = input_confirms; tick = tick_confirms; offer = offer_talks }
