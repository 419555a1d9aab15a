-- What lasts while packets come in order, none lost, and messages are offered.
use Rattle.std.proofs.Common.{◌≡◌, ◌⊎◌, Some, List, [], ◌∷◌, ◌++◌, All, refl, ap, ◌∙◌, inl, inr}
use Rattle.std.proofs.lemmas.List.Elements.{All-same}
use Rattle.linx_base.specs.declared.frame.Message.{Message}
use Rattle.linx_base.specs.declared.identity.Session.{Session}
use Rattle.linx_base.specs.declared.identity.Side.TheVariants.{Second}
use Rattle.ethcm_headers.specs.declared.packets.Packet.{Packet}
use Rattle.ethcm_window.specs.Sending.{Sender}
use Rattle.ethcm_end.specs.declared.answers.Input.{Input}
use Rattle.ethcm_end.specs.declared.answers.Input.TheVariants as inputs
use Rattle.ethcm_end.specs.declared.answers.Ticked.{Ticked}
use Rattle.ethcm_end.specs.declared.answers.Ticked.TheVariants as ticks
use Rattle.ethcm_end.specs.States.{EndState, Reaction, peer_of}
use Rattle.ethcm_end.specs.Rules.{input_of, offer_of, tick_of}
use Rattle.ethcm_end.specs.Windows.{IsSent, SendsPackets}
use Rattle.carrier.specs.Records.{HalfState}
use Rattle.carrier.specs.Events.{drained, recorded, recorded_tick, with_offered}
use Rattle.carrier.specs.Keeping.{KeepsLink}
use Rattle.carrier.proofs.Links.{seen_keeps}

-- ---- a side and what it sends

-- a side after what its end made of a packet
abbrev pub after : HalfState → Reaction Input → HalfState
after a r = recorded a (drained r.state) r.answer

abbrev pub came : HalfState → Packet → HalfState
came a p = after a (input_of a.end p)

abbrev pub came_out : HalfState → Packet → List Packet
came_out a p = (input_of a.end p).state.out

-- a side after an offer
abbrev pub offered : HalfState → Message → HalfState
offered a m = with_offered a (drained (offer_of a.end m)) m

abbrev pub offered_out : HalfState → Message → List Packet
offered_out a m = (offer_of a.end m).out

-- a side after what its end made of a tick
abbrev pub after_tick : HalfState → Reaction Ticked → HalfState
after_tick a r = recorded_tick a (drained r.state) r.answer

abbrev pub beaten : HalfState → HalfState
beaten a = after_tick a (tick_of a.end)

abbrev pub beaten_out : HalfState → List Packet
beaten_out a = (tick_of a.end).state.out

end_recorded : (a : HalfState) (s : EndState) (answer : Input) → (recorded a s answer).end ≡ s
end_recorded a s inputs.Nothing = refl
end_recorded a s inputs.WentUp = refl
end_recorded a s inputs.WentDown = refl
end_recorded a s (inputs.Got m) = refl

end_beaten : (a : HalfState) (s : EndState) (answer : Ticked)
    → (recorded_tick a s answer).end ≡ s
end_beaten a s ticks.Stays = refl
end_beaten a s ticks.WentDown = refl

-- ---- what lasts

-- what holds of two sides and the packets in flight between them, whatever happened
abbrev pub Holds : HalfState → HalfState → List Packet → List Packet → Type 0
Holds a b there back =
    KeepsLink (record { first = a; second = b; there = there; back = back })

-- C stays as the first packet from a side comes, and as messages are offered to a side that is up
pub record Lasts (C : HalfState → HalfState → List Packet → List Packet → Type 0) : Type 0 where
  pub near_came :
      (a b : HalfState) (there left : List Packet) (p : Packet) → Holds a b there (p ∷ left)
      → Holds (came a p) b (there ++ came_out a p) left → C a b there (p ∷ left)
      → C (came a p) b (there ++ came_out a p) left
  pub far_came :
      (a b : HalfState) (left back : List Packet) (p : Packet) → Holds a b (p ∷ left) back
      → Holds a (came b p) left (back ++ came_out b p) → C a b (p ∷ left) back
      → C a (came b p) left (back ++ came_out b p)
  pub near_offered :
      (a b : HalfState) (there back : List Packet) (m : Message) (peer : Session)
      → peer_of a.end ≡ Some peer → Holds a b there back
      → Holds (offered a m) b (there ++ offered_out a m) back → C a b there back
      → C (offered a m) b (there ++ offered_out a m) back
  pub far_offered :
      (a b : HalfState) (there back : List Packet) (m : Message) (peer : Session)
      → peer_of b.end ≡ Some peer → Holds a b there back
      → Holds a (offered b m) there (back ++ offered_out b m) → C a b there back
      → C a (offered b m) there (back ++ offered_out b m)

-- ---- packets among others

-- P holds of one of these packets
abbrev pub Has : (Packet → Type 0) → List Packet → Type 0
Has P [] = ⊥
Has P (p ∷ ps) = P p ⊎ Has P ps

module _ (P : Packet → Type 0) where
  pub has_front : (xs ys : List Packet) → Has P xs → Has P (xs ++ ys)
  has_front [] ys h = absurd h
  has_front (x ∷ xs) ys h =
      elim h [ inl here ↦ inl here | inr later ↦ inr (has_front xs ys later) ]

  pub has_behind : (xs ys : List Packet) → Has P ys → Has P (xs ++ ys)
  has_behind [] ys h = h
  has_behind (x ∷ xs) ys h = inr (has_behind xs ys h)

pub has_more : (P Q : Packet → Type 0) → ((p : Packet) → P p → Q p) → (xs : List Packet)
    → Has P xs → Has Q xs
has_more P Q f [] h = absurd h
has_more P Q f (x ∷ xs) h =
    elim h [ inl here ↦ inl (f x here) | inr later ↦ inr (has_more P Q f xs later) ]

-- what an end sends that had nothing to send
pub sent_all : (tx : Sender) (old new : EndState) (to : Session) → old.out ≡ []
    → SendsPackets tx old new to → All (IsSent tx old new to) new.out
sent_all tx old new to none sends =
    All-same (IsSent tx old new to) new.out sends.packets
    (sends.added ∙ ap (λ l. l ++ sends.packets) none) sends.sent

-- the end of a side after a packet, and after a tick, whatever was answered
pub came_end : (a : HalfState) (p : Packet) → (came a p).end ≡ drained (input_of a.end p).state
came_end a p = end_recorded a (drained (input_of a.end p).state) (input_of a.end p).answer

pub beaten_end : (a : HalfState) → (beaten a).end ≡ drained (tick_of a.end).state
beaten_end a = end_beaten a (drained (tick_of a.end).state) (tick_of a.end).answer

-- a link seen from its other side
pub turned_holds : (a b : HalfState) (there back : List Packet) → Holds a b there back
    → Holds b a back there
turned_holds a b there back k =
    seen_keeps Second (record { first = a; second = b; there = there; back = back }) k

-- what lasts, seen from the other side
pub lasts_turned : (C : HalfState → HalfState → List Packet → List Packet → Type 0) → Lasts C
    → Lasts (λ a b there back. C b a back there)
lasts_turned C lasts =
    record {
      near_came = λ a b there left p k now h.
          lasts.far_came b a left there p (turned_holds a b there (p ∷ left) k)
          (turned_holds (came a p) b (there ++ came_out a p) left now) h;
      far_came = λ a b left back p k now h.
          lasts.near_came b a back left p (turned_holds a b (p ∷ left) back k)
          (turned_holds a (came b p) left (back ++ came_out b p) now) h;
      near_offered = λ a b there back m peer e k now h.
          lasts.far_offered b a back there m peer e (turned_holds a b there back k)
          (turned_holds (offered a m) b (there ++ offered_out a m) back now) h;
      far_offered = λ a b there back m peer e k now h.
          lasts.near_offered b a back there m peer e (turned_holds a b there back k)
          (turned_holds a (offered b m) there (back ++ offered_out b m) now) h;
    }
