-- Two sides that are up with each other, after one of them ticked: the other hears it, so its own
-- tick isn't its last, and both are confirmed. Side a is the one whose tick is next.
use Rattle.std.proofs.Common.{◌≡◌, ◌⊎◌, ℕ, true, Some, None, List, [], ◌∷◌}
use Rattle.std.proofs.Common.{refl, sym, ap, subst, ◌∙◌, arith, inl, inr}
use Rattle.std.proofs.lemmas.List.Elements.{All-head}
use Rattle.std.proofs.lemmas.Option.{same_Some}
use Rattle.linx_base.specs.declared.frame.ConnKind.TheVariants as kinds
use Rattle.linx_base.specs.declared.frame.Message.{Message}
use Rattle.linx_base.specs.declared.identity.Session.{Session}
use Rattle.ethcm_headers.specs.declared.packets.Packet.{Packet}
use Rattle.ethcm_headers.specs.declared.packets.Part.{Part}
use Rattle.ethcm_headers.specs.declared.packets.Part.TheVariants.{Conn, Ack, Nack, Piece}
use Rattle.ethcm_session.specs.declared.standing.TalkState.{TalkState}
use Rattle.ethcm_session.specs.Table.{is_confirmed_in}
use Rattle.ethcm_end.specs.declared.answers.Input.{Input}
use Rattle.ethcm_end.specs.States.{EndState, Reaction, peer_of}
use Rattle.ethcm_end.specs.Rules.{input_of}
use Rattle.ethcm_end.proofs.ByRule.{by_rules}
use Rattle.carrier.specs.Records.{HalfState, mine_of}
use Rattle.link_settling.proofs.Sides.HalfOpen.{Together, number_of, offered_so, together_came}
use Rattle.link_settling.proofs.Sides.HalfOpen.{turned_together}
use Rattle.link_settling.proofs.Sides.Joining.{came_ticks}
use Rattle.link_settling.proofs.Flights.InOrder.{InOrder, in_order_lasts}
use Rattle.link_settling.proofs.Flights.Steps.{Has, Holds, Lasts, came, came_end, came_out}
use Rattle.link_settling.proofs.Flights.Steps.{has_front}
use Rattle.link_settling.proofs.Flights.Steps.{lasts_turned, offered, offered_out, turned_holds}

-- an end has heard its peer since its last tick, and is confirmed
pub record HasHeard (s : EndState) : Type 0 where
  pub ticks : s.ticks ≡ 0
  pub confirmed : is_confirmed_in s.talk.standing ≡ true

abbrev pub IsPiecePart : Part → Type 0
IsPiecePart (Conn kind) = ⊥
IsPiecePart (Ack next) = ⊥
IsPiecePart (Nack next count) = ⊥
IsPiecePart (Piece next seq frame) = Unit {0}

-- what a tick sends to session n of its peer: an ACK of the session, or a piece
abbrev pub IsSpeech : ℕ → Packet → Type 0
IsSpeech n p = (p.dst ≡ n) × ((p.part ≡ Conn kinds.Ack) ⊎ IsPiecePart p.part)

-- it has heard, or what it will hear is in flight to it
abbrev pub Hearing : EndState → List Packet → Type 0
Hearing s ps = HasHeard s ⊎ Has (IsSpeech s.talk.mine.0) ps

-- ---- a packet from the peer's session

-- a CONNECT or a CONNECT_ACK isn't what a tick of an end that is up sends
no_speech : (part : Part) → ((part ≡ Conn kinds.Ack) ⊎ IsPiecePart part) → (kind : Part)
    → part ≡ kind → ((kind ≡ Conn kinds.Connect) ⊎ (kind ≡ Conn kinds.ConnectAck)) → ⊥
no_speech (Conn c) (inl ack) kind e other =
    elim other [ inl q ↦ grind arith | inr q ↦ grind arith ]
no_speech (Conn c) (inr piece) kind e other = piece
no_speech (Ack next) h kind e other = elim other [ inl q ↦ grind arith | inr q ↦ grind arith ]
no_speech (Nack next count) h kind e other =
    elim other [ inl q ↦ grind arith | inr q ↦ grind arith ]
no_speech (Piece next seq frame) h kind e other =
    elim other [ inl q ↦ grind arith | inr q ↦ grind arith ]

-- where the end stays up: confirmed, it stays so; what a tick sends is heard, and confirms it
record Speaks (s : EndState) (p : Packet) (r : Reaction Input) : Type 0 where
  pub confirmed :
      is_confirmed_in s.talk.standing ≡ true
      → is_confirmed_in r.state.talk.standing ≡ true
  pub speech : IsSpeech s.talk.mine.0 p → HasHeard r.state

speaks : (s : EndState) (p : Packet) → peer_of s ≡ Some p.src
    → (peer_of (input_of s p).state ≡ None → ⊥) → Speaks s p (input_of s p)
speaks s p e =
    let other : (y : Session) → peer_of s ≡ Some y → y.0 ≡ p.src.0 =
    λ y q. number_of y p.src (same_Some y p.src (sym q ∙ e)) in
    let by_data : (r : Reaction Input) → r.state.ticks ≡ 0
    → is_confirmed_in r.state.talk.standing ≡ true → Speaks s p r =
    λ r t c. record { confirmed = λ z. c; speech = λ z. record { ticks = t; confirmed = c } } in
    by_rules (λ r. (peer_of r.state ≡ None → ⊥) → Speaks s p r) s p (record {
      connecting_connect = λ q k never. absurd (grind arith);
      connecting_connect_ack = λ q k d never. absurd (grind arith);
      connecting_ack = λ q k d never. absurd (grind arith);
      connecting_other = λ q x y z never. absurd (grind arith);
      up_lower = λ y q l never. absurd (let n = other y q in omega arith);
      up_greater = λ y q l never. absurd (never refl);
      up_connect = λ q k never.
          record {
            confirmed = λ z. z;
            speech = λ z. absurd (no_speech p.part z.1 (Conn kinds.Connect) k (inl refl));
          };
      up_not_mine = λ q k d never.
          record { confirmed = λ z. z; speech = λ z. absurd (d z.0) };
      up_reset = λ between k never. absurd (never refl);
      up_connect_ack = λ between k never.
          record {
            confirmed = λ z. z;
            speech = λ z. absurd (no_speech p.part z.1 (Conn kinds.ConnectAck) k (inr refl));
          };
      up_ack = λ between k never. by_data _ refl refl;
      frames_acked = λ next between k never. by_data _ refl refl;
      frames_missed = λ next count between k never. by_data _ refl refl;
      old = λ next seq frame between k l never. by_data _ refl refl;
      early_again = λ next seq frame between k l q never. by_data _ refl refl;
      early = λ next seq frame between k l q never. by_data _ refl refl;
      taken = λ next frame between k m never. by_data _ refl refl;
      taken_whole = λ next frame m between k w never. by_data _ refl refl;
      taken_broken = λ next frame between k w never. absurd (never refl);
    })

module _ (a b : HalfState) (there left : List Packet) (p : Packet)
    (k : Holds a b there (p ∷ left)) (t : Together a b) (src : p.src ≡ b.end.talk.mine) where
  still_up : Together (came a p) b
  still_up = together_came a b there left p k t

  stays_up : peer_of (input_of a.end p).state ≡ None → ⊥
  stays_up none =
      let is = still_up.near in
      let same : peer_of (came a p).end ≡ peer_of (input_of a.end p).state =
      ap (λ (s : EndState). peer_of s) (came_end a p) in
      grind arith

  says : Speaks a.end p (input_of a.end p)
  says = speaks a.end p (t.near ∙ ap (λ x. Some x) (sym src)) stays_up

  pub confirmed_came : is_confirmed_in a.end.talk.standing ≡ true
      → is_confirmed_in (came a p).end.talk.standing ≡ true
  confirmed_came c =
      ap (λ (s : EndState). is_confirmed_in s.talk.standing) (came_end a p) ∙ says.confirmed c

  same_session : (came a p).end.talk.mine ≡ a.end.talk.mine
  same_session = same_Some _ _ (sym still_up.far ∙ t.far)

  pub hearing_came : Hearing a.end (p ∷ left) → Hearing (came a p).end left
  hearing_came (inl h) =
      inl (record {
        ticks = (let upto = came_ticks a p in let none = h.ticks in omega arith);
        confirmed = confirmed_came h.confirmed;
      })
  hearing_came (inr (inl here)) =
      inl (subst (λ s. HasHeard s) (sym (came_end a p)) (record {
        ticks = (says.speech here).ticks;
        confirmed = (says.speech here).confirmed;
      }))
  hearing_came (inr (inr later)) =
      inr (subst (λ (x : Session). Has (IsSpeech x.0) left) (sym same_session) later)

hearing_offered : (a : HalfState) (back : List Packet) (m : Message) (peer : Session)
    → a.end.out ≡ [] → peer_of a.end ≡ Some peer → Hearing a.end back
    → Hearing (offered a m).end back
hearing_offered a back m peer out e h =
    let so = offered_so a m peer out e in
    elim h [
      | inl did ↦ inl (record {
        ticks = so.ticks ∙ did.ticks;
        confirmed =
            ap (λ (t : TalkState). is_confirmed_in t.standing) so.talk ∙ did.confirmed;
      })
      | inr has ↦ inr (subst (λ (t : TalkState). Has (IsSpeech t.mine.0) back) (sym so.talk) has)
    ]

-- ---- after one tick

-- what side b sends is in order, and side a hears of it
pub record Begun (a b : HalfState) (there back : List Packet) : Type 0 where
  pub order : InOrder b a back there
  pub hearing : Hearing a.end back

from_far : Lasts (λ a b there back. InOrder b a back there)
from_far = lasts_turned InOrder in_order_lasts

pub begun_lasts : Lasts Begun
begun_lasts =
    record {
      near_came = λ a b there left p k now h.
          record {
            order = from_far.near_came a b there left p k now h.order;
            hearing = hearing_came a b there left p k (turned_together b a h.order.together)
                (All-head (λ q. q.src ≡ b.end.talk.mine) p left h.order.from_there) h.hearing;
          };
      far_came = λ a b left back p k now h.
          record {
            order = from_far.far_came a b left back p k now h.order;
            hearing = elim h.hearing [
              | inl did ↦ inl did
              | inr has ↦ inr (has_front (IsSpeech (mine_of a)) back (came_out b p) has)
            ];
          };
      near_offered = λ a b there back m peer e k now h.
          record {
            order = from_far.near_offered a b there back m peer e k now h.order;
            hearing = hearing_offered a back m peer k.near.out e h.hearing;
          };
      far_offered = λ a b there back m peer e k now h.
          record {
            order = from_far.far_offered a b there back m peer e k now h.order;
            hearing = elim h.hearing [
              | inl did ↦ inl did
              | inr has ↦ inr (has_front (IsSpeech (mine_of a)) back (offered_out b m) has)
            ];
          };
    }

-- ---- after both ticks

-- what both send is in order, side a hears of it, and side b is confirmed
pub record Calm (a b : HalfState) (there back : List Packet) : Type 0 where
  pub begun : Begun a b there back
  pub order : InOrder a b there back
  pub confirmed : is_confirmed_in b.end.talk.standing ≡ true

pub calm_lasts : Lasts Calm
calm_lasts =
    record {
      near_came = λ a b there left p k now h.
          record {
            begun = begun_lasts.near_came a b there left p k now h.begun;
            order = in_order_lasts.near_came a b there left p k now h.order;
            confirmed = h.confirmed;
          };
      far_came = λ a b left back p k now h.
          record {
            begun = begun_lasts.far_came a b left back p k now h.begun;
            order = in_order_lasts.far_came a b left back p k now h.order;
            confirmed = confirmed_came b a back left p (turned_holds a b (p ∷ left) back k)
                (turned_together a b h.order.together)
                (All-head (λ q. q.src ≡ a.end.talk.mine) p left h.order.from_there)
                h.confirmed;
          };
      near_offered = λ a b there back m peer e k now h.
          record {
            begun = begun_lasts.near_offered a b there back m peer e k now h.begun;
            order = in_order_lasts.near_offered a b there back m peer e k now h.order;
            confirmed = h.confirmed;
          };
      far_offered = λ a b there back m peer e k now h.
          record {
            begun = begun_lasts.far_offered a b there back m peer e k now h.begun;
            order = in_order_lasts.far_offered a b there back m peer e k now h.order;
            confirmed =
                ap (λ (t : TalkState). is_confirmed_in t.standing)
                (offered_so b m peer k.far.out e).talk ∙ h.confirmed;
          };
    }
