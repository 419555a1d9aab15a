-- Side b is connecting and asks side a, which is up with an earlier session and goes down by that.
-- Side a is the one whose tick is next.
use Rattle.std.proofs.Common.{◌≡◌, ◌<◌, Some, None, List, [], ◌∷◌, ◌++◌, All, refl, sym, ap, subst}
use Rattle.std.proofs.Common.{◌∙◌, arith, inl, inr, append-nil}
use Rattle.std.proofs.lemmas.List.Elements.{All-append, All-head, All-nil, All-tail}
use Rattle.linx_base.specs.declared.frame.ConnKind.TheVariants as kinds
use Rattle.linx_base.specs.declared.frame.Message.{Message}
use Rattle.linx_base.specs.declared.identity.Session.{Session}
use Rattle.ethcm_headers.specs.declared.packets.Packet.{Packet}
use Rattle.ethcm_headers.specs.declared.packets.Part.TheVariants.{Conn}
use Rattle.ethcm_session.specs.declared.standing.TalkState.{TalkState}
use Rattle.ethcm_session.specs.Table.{standing_peer}
use Rattle.ethcm_end.specs.States.{EndState, peer_of}
use Rattle.ethcm_end.specs.Rules.{gone_down, input_of}
use Rattle.carrier.specs.Records.{HalfState}
use Rattle.carrier.specs.Keeping.{IsFlying}
use Rattle.link_settling.proofs.Sides.Apart.{Hushed, IsHushed, IsStrange, Silent, StaysOrDown}
use Rattle.link_settling.proofs.Sides.Apart.{all_hushed, all_offered_hushed, hushed, offered_talk}
use Rattle.link_settling.proofs.Sides.Apart.{peer_upto, silent_lasts, strange_receiver}
use Rattle.link_settling.proofs.Sides.Joining.{only}
use Rattle.link_settling.proofs.Flights.AllSent.{by_rule}
use Rattle.link_settling.proofs.Flights.Steps.{Holds, Lasts, after, came, came_end, came_out}
use Rattle.link_settling.proofs.Flights.Steps.{offered, offered_out}

pub record Calls (a b : HalfState) (there back : List Packet) : Type 0 where
  pub far_down : peer_of b.end ≡ None
  pub peer : Session
  pub near_up : peer_of a.end ≡ Some peer
  -- nothing that side a sends does anything at side b
  pub strange : IsStrange a.end.talk b.end.talk
  pub hushed_there : All (IsHushed b.end.talk) there
  -- the packet that asks is of a later session
  pub ask : Packet
  pub back_is : back ≡ ask ∷ []
  pub part : ask.part ≡ Conn kinds.Connect
  pub later : peer.0 < ask.src.0

-- it asks, or side a went down
pub data Calling (a b : HalfState) (there back : List Packet) : Type 0 where
  calls : Calls a b there back → Calling a b there back
  silent : Silent a b there back → Calling a b there back

calls_came : (a b : HalfState) (there left : List Packet) (p : Packet)
    → Holds a b there (p ∷ left) → Calls a b there (p ∷ left)
    → Silent (came a p) b (there ++ came_out a p) left
calls_came a b there left p k h =
    let one = only p h.ask left h.back_is in
    let src : p.src.0 ≡ h.ask.src.0 = ap (λ (q : Packet). q.src.0) one.0 in
    let later = h.later in
    let is = (by_rule a.end p k.near.out).up_greater h.peer h.near_up (omega arith) in
    subst (λ r. Silent (after a r) b (there ++ r.state.out) left) (sym is) (record {
      ending = record {
        apart = record {
          near_strange = λ y e. absurd (grind arith);
          far_strange = λ y e. absurd (let none = h.far_down in grind arith);
          near_hushed = All-append (IsHushed b.end.talk) there [] h.hushed_there
              (All-nil (IsHushed b.end.talk));
          far_hushed = subst (λ l. All (IsHushed (gone_down a.end).talk) l) (sym one.1)
              (All-nil (IsHushed (gone_down a.end).talk));
        };
        ending = inl refl;
      };
      far_down = h.far_down;
    })

module _ (a b : HalfState) (left back : List Packet) (p : Packet)
    (k : Holds a b (p ∷ left) back) (h : Calls a b (p ∷ left) back) where
  far_hears : Hushed b.end.talk p (input_of b.end p)
  far_hears =
      hushed b.end p k.far.out (All-head (IsHushed b.end.talk) p left h.hushed_there)

  far_talk : (came b p).end.talk ≡ (input_of b.end p).state.talk
  far_talk = ap (λ (s : EndState). s.talk) (came_end b p)

  far_goes : StaysOrDown b.end.talk (came b p).end.talk
  far_goes = subst (λ t. StaysOrDown b.end.talk t) (sym far_talk) far_hears.goes

  calls_far : Calls a (came b p) left (back ++ came_out b p)
  calls_far =
      record {
        far_down = elim far_goes [
          | inl same ↦ ap (λ (t : TalkState). standing_peer t.standing) same ∙ h.far_down
          | inr down ↦ down.connecting
        ];
        peer = h.peer;
        near_up = h.near_up;
        strange = strange_receiver a.end.talk b.end.talk (came b p).end.talk
            (peer_upto k.piece a b (p ∷ left) back k.near k.far) far_goes h.strange;
        hushed_there = all_hushed k.piece a b (came b p).end.talk left far_goes
            (All-tail (IsFlying k.piece a b) p left k.near.packets)
            (All-tail (IsHushed b.end.talk) p left h.hushed_there);
        ask = h.ask;
        back_is = ap (λ l. back ++ l) far_hears.silent ∙ append-nil back ∙ h.back_is;
        part = h.part;
        later = h.later;
      }

calls_offered : (a b : HalfState) (there back : List Packet) (m : Message) (peer : Session)
    → peer_of a.end ≡ Some peer → Holds a b there back → Calls a b there back
    → Calls (offered a m) b (there ++ offered_out a m) back
calls_offered a b there back m peer e k h =
    let talk = offered_talk a b there back m peer e k in
    record {
      far_down = h.far_down;
      peer = h.peer;
      near_up = ap (λ (t : TalkState). standing_peer t.standing) talk ∙ h.near_up;
      strange = subst (λ t. IsStrange t b.end.talk) (sym talk) h.strange;
      hushed_there = All-append (IsHushed b.end.talk) there (offered_out a m) h.hushed_there
          (all_offered_hushed a b there back m peer e k h.strange);
      ask = h.ask;
      back_is = h.back_is;
      part = h.part;
      later = h.later;
    }

-- ---- what lasts

near_came : (a b : HalfState) (there left : List Packet) (p : Packet)
    → Holds a b there (p ∷ left) → Holds (came a p) b (there ++ came_out a p) left
    → Calling a b there (p ∷ left) → Calling (came a p) b (there ++ came_out a p) left
near_came a b there left p k now (calls h) = silent (calls_came a b there left p k h)
near_came a b there left p k now (silent h) =
    silent (silent_lasts.near_came a b there left p k now h)

far_came : (a b : HalfState) (left back : List Packet) (p : Packet)
    → Holds a b (p ∷ left) back → Holds a (came b p) left (back ++ came_out b p)
    → Calling a b (p ∷ left) back → Calling a (came b p) left (back ++ came_out b p)
far_came a b left back p k now (calls h) = calls (calls_far a b left back p k h)
far_came a b left back p k now (silent h) =
    silent (silent_lasts.far_came a b left back p k now h)

near_offered : (a b : HalfState) (there back : List Packet) (m : Message) (peer : Session)
    → peer_of a.end ≡ Some peer → Holds a b there back
    → Holds (offered a m) b (there ++ offered_out a m) back → Calling a b there back
    → Calling (offered a m) b (there ++ offered_out a m) back
near_offered a b there back m peer e k now (calls h) =
    calls (calls_offered a b there back m peer e k h)
near_offered a b there back m peer e k now (silent h) =
    silent (silent_lasts.near_offered a b there back m peer e k now h)

far_offered : (a b : HalfState) (there back : List Packet) (m : Message) (peer : Session)
    → peer_of b.end ≡ Some peer → Holds a b there back
    → Holds a (offered b m) there (back ++ offered_out b m) → Calling a b there back
    → Calling a (offered b m) there (back ++ offered_out b m)
far_offered a b there back m peer e k now (calls h) =
    absurd (let none = h.far_down in grind arith)
far_offered a b there back m peer e k now (silent h) =
    silent (silent_lasts.far_offered a b there back m peer e k now h)

pub calling_lasts : Lasts Calling
calling_lasts =
    record {
      near_came = near_came;
      far_came = far_came;
      near_offered = near_offered;
      far_offered = far_offered;
    }

-- where nothing is in flight, both are down
pub calling_over : (a b : HalfState) → Calling a b [] []
    → (peer_of a.end ≡ None) × (peer_of b.end ≡ None)
calling_over a b (calls h) = absurd (let e = h.back_is in grind arith)
calling_over a b (silent h) =
    elim h.ending.ending [
      | inl none ↦ (none, h.far_down)
      | inr has ↦ absurd has
    ]
