-- A side that is up with the present session of the other, which is connecting; and two sides that
-- are up with each other.
use Rattle.std.proofs.Common.{◌≡◌, ◌⊎◌, ◌≤◌, ℕ, true, Some, None, List}
use Rattle.std.proofs.Common.{[], ◌∷◌, ◌++◌, All, map, refl, sym, ap, subst, ◌∙◌, arith, inl, inr}
use Rattle.std.proofs.lemmas.List.Elements.{All-append, All-cons, All-head, All-nil, All-tail}
use Rattle.std.proofs.lemmas.Option.{same_Some}
use Rattle.linx_base.specs.declared.frame.ConnKind.TheVariants as kinds
use Rattle.linx_base.specs.declared.frame.Message.{Message}
use Rattle.linx_base.specs.declared.frame.SentFrame.{SentFrame}
use Rattle.linx_base.specs.declared.identity.Session.{Session}
use Rattle.ethcm_headers.specs.declared.packets.Packet.{Packet}
use Rattle.ethcm_headers.specs.declared.packets.Part.{Part}
use Rattle.ethcm_headers.specs.declared.packets.Part.TheVariants.{Conn}
use Rattle.ethcm_session.specs.Table.{standing_peer}
use Rattle.ethcm_window.specs.Sending.{coming_in, with_frames}
use Rattle.fragmenter.specs.Pieces.{pieces_of}
use Rattle.ethcm_end.specs.declared.answers.Input.{Input}
use Rattle.ethcm_end.specs.declared.answers.Input.TheVariants as inputs
use Rattle.ethcm_end.specs.States.{EndState, Reaction, peer_of}
use Rattle.ethcm_end.specs.Rules.{input_of, kind_in, piece_packet}
use Rattle.ethcm_end.specs.Rows.{IsBetween}
use Rattle.carrier.specs.Records.{HalfState, entries, is_pair, mine_of}
use Rattle.carrier.specs.Events.{drained, handed_as, recorded}
use Rattle.carrier.specs.Keeping.{IsFlying, IsSaid}
use Rattle.carrier.specs.Laws.{DownForGreater, TellsRightly}
use Rattle.carrier.proofs.Ends.{came as came_by}
use Rattle.carrier.proofs.Flying.{pair_said}
use Rattle.carrier.proofs.Lookups.{own_unpaired}
use Rattle.carrier.proofs.Telling.{down_for_greater, tells_came}
use Rattle.link_settling.proofs.Flights.AllSent.{by_drained_rules, by_offer}
use Rattle.link_settling.proofs.Flights.Steps.{Has, Holds, after, came, offered, offered_out}

-- ---- up with each other

pub record Together (a b : HalfState) : Type 0 where
  pub near : peer_of a.end ≡ Some b.end.talk.mine
  pub far : peer_of b.end ≡ Some a.end.talk.mine

pub turned_together : (a b : HalfState) → Together a b → Together b a
turned_together a b t = record { near = t.far; far = t.near }

pub number_of : (x y : Session) → x ≡ y → x.0 ≡ y.0
number_of x y e = ap (λ (s : Session). s.0) e

still_together : (a b : HalfState) (src : Session) (new : EndState) (answer : Input)
    → TellsRightly a (recorded a (drained new) answer) b
    (handed_as a.end.talk.mine src answer)
    → DownForGreater a b (handed_as a.end.talk.mine src answer) → Together a b
    → Together (recorded a (drained new) answer) b
still_together a b src new inputs.Nothing tells down t =
    record {
      near = tells.0.peer ∙ t.near;
      far = t.far ∙ ap (λ x. Some x) (sym tells.0.session);
    }
still_together a b src new inputs.WentUp tells down t =
    absurd (let none = tells.0.was_connecting in let up = t.near in grind arith)
still_together a b src new inputs.WentDown tells down t =
    absurd (let same = number_of _ _ (same_Some _ _ (sym down.1 ∙ t.near)) in
    let less = down.2 in
    omega arith)
still_together a b src new (inputs.Got m) tells down t =
    record {
      near = tells.stays.peer ∙ t.near;
      far = t.far ∙ ap (λ x. Some x) (sym tells.stays.session);
    }

-- every packet that is in flight leaves them so, also one of an earlier session
pub together_came : (a b : HalfState) (there left : List Packet) (p : Packet)
    → Holds a b there (p ∷ left) → Together a b → Together (came a p) b
together_came a b there left p k t =
    let f = All-head (IsFlying k.piece b a) p left k.far.packets in
    let sized = k.sized in
    still_together a b p.src (input_of a.end p).state (input_of a.end p).answer
    (tells_came k.piece a b p f (input_of a.end p).state (input_of a.end p).answer
    (came_by a.end p))
    (down_for_greater k.piece a b there (p ∷ left) k.near k.far (omega arith) p f) t

pub together_offered : (a b : HalfState) (m : Message) (peer : Session) → a.end.out ≡ []
    → peer_of a.end ≡ Some peer → Together a b → Together (offered a m) b
together_offered a b m peer out e t =
    let is = by_offer a.end m peer out e in
    record {
      near = ap (λ (s : EndState). peer_of s) is ∙ t.near;
      far = t.far ∙ ap (λ (s : EndState). Some s.talk.mine) (sym is);
    }

-- ---- what is of a session

-- the packets are of this session
abbrev pub AreFrom : Session → List Packet → Type 0
AreFrom x ps = All (λ p. p.src ≡ x) ps

-- they are pieces, or acknowledgements of frames
abbrev pub AreData : List Packet → Type 0
AreData ps = All (λ p. kind_in p.part ≡ None) ps

pub pieces_from : (s : EndState) (to : Session) (sent : List SentFrame)
    → AreFrom s.talk.mine (map (piece_packet s to) sent)
pieces_from s to [] = All-nil (λ p. p.src ≡ s.talk.mine)
pieces_from s to (f ∷ sent) =
    All-cons (λ p. p.src ≡ s.talk.mine) (piece_packet s to f) (map (piece_packet s to) sent) refl
    (pieces_from s to sent)

pub pieces_data : (s : EndState) (to : Session) (sent : List SentFrame)
    → AreData (map (piece_packet s to) sent)
pieces_data s to [] = All-nil (λ p. kind_in p.part ≡ None)
pieces_data s to (f ∷ sent) =
    All-cons (λ p. kind_in p.part ≡ None) (piece_packet s to f) (map (piece_packet s to) sent) refl
    (pieces_data s to sent)

-- a packet from a session to another one
pub one_from : (x : Session) (dst : ℕ) (part : Part)
    → AreFrom x (record { src = x; dst = dst; part = part } ∷ [])
one_from x dst part = All-cons (λ q. q.src ≡ x) _ [] refl (All-nil (λ q. q.src ≡ x))

pub none_from : (x : Session) → AreFrom x []
none_from x = All-nil (λ q. q.src ≡ x)

-- an offer sends pieces alone
pub record OfferedSo (a : HalfState) (m : Message) : Type 0 where
  pub talk : (offered a m).end.talk ≡ a.end.talk
  pub ticks : (offered a m).end.ticks ≡ a.end.ticks
  pub from : AreFrom a.end.talk.mine (offered_out a m)
  pub data_alone : AreData (offered_out a m)

pub offered_so : (a : HalfState) (m : Message) (peer : Session) → a.end.out ≡ []
    → peer_of a.end ≡ Some peer → OfferedSo a m
offered_so a m peer out e =
    let is = by_offer a.end m peer out e in
    let sent : List SentFrame =
    coming_in a.end.tx (with_frames a.end.tx (pieces_of m a.end.piece)) in
    let mid : EndState =
    record (drained a.end) { tx = with_frames a.end.tx (pieces_of m a.end.piece) } in
    record {
      talk = ap (λ (s : EndState). s.talk) is;
      ticks = ap (λ (s : EndState). s.ticks) is;
      from = subst (λ (s : EndState). AreFrom a.end.talk.mine s.out) (sym is)
          (pieces_from mid peer sent);
      data_alone = subst (λ (s : EndState). AreData s.out) (sym is) (pieces_data mid peer sent);
    }

-- ---- one side is up

pub record HalfOpen (u d : HalfState) (up down : List Packet) : Type 0 where
  pub is_up : peer_of u.end ≡ Some d.end.talk.mine
  pub asks : peer_of d.end ≡ None
  -- what is in flight is of the present sessions
  pub from_up : AreFrom u.end.talk.mine up
  pub from_down : AreFrom d.end.talk.mine down

-- an ACK of the session to session n
abbrev pub IsAckTo : ℕ → Packet → Type 0
IsAckTo n p = (p.part ≡ Conn kinds.Ack) × (p.dst ≡ n)

-- what a packet from the connecting side makes of the one that is up
pub record UpHears (u d : HalfState) (up left : List Packet) (p : Packet) (r : Reaction Input)
    : Type 0 where
  pub half : HalfOpen (after u r) d (up ++ r.state.out) left
  pub ticks : r.state.ticks ≤ u.end.ticks
  pub answers :
      p.part ≡ Conn kinds.Connect
      → (r.state.ticks ≡ 0) × Has (IsAckTo (mine_of d)) r.state.out

module _ (u d : HalfState) (up left : List Packet) (p : Packet)
    (k : Holds u d up (p ∷ left)) (h : HalfOpen u d up (p ∷ left)) where
  flying : IsFlying k.piece d u p
  flying = All-head (IsFlying k.piece d u) p left k.far.packets

  src : p.src ≡ d.end.talk.mine
  src = All-head (λ q. q.src ≡ d.end.talk.mine) p left h.from_down

  number : p.src.0 ≡ mine_of d
  number = number_of p.src d.end.talk.mine src

  peer : peer_of u.end ≡ Some p.src
  peer = h.is_up ∙ ap (λ x. Some x) (sym src)

  -- what the side that is up becomes
  stays : (c : HalfState) (out : List Packet) → c.end.talk.mine ≡ u.end.talk.mine
      → peer_of c.end ≡ Some p.src → AreFrom u.end.talk.mine out
      → HalfOpen c d (up ++ out) left
  stays c out mine is from =
      record {
        is_up = is ∙ ap (λ x. Some x) src;
        asks = h.asks;
        from_up = subst (λ x. AreFrom x (up ++ out)) (sym mine)
            (All-append (λ q. q.src ≡ u.end.talk.mine) up out h.from_up from);
        from_down = All-tail (λ q. q.src ≡ d.end.talk.mine) p left h.from_down;
      }

  -- nothing is acknowledged by a side that was never up in its session
  never_confirms : (p.part ≡ Conn kinds.Ack) ⊎ (kind_in p.part ≡ None) → ⊥
  never_confirms e =
      let pair = pair_said k.piece d p.src.0 p.dst p.part e flying.says in
      let paired : is_pair p.dst (mine_of d) (entries d) ≡ true =
      subst (λ n. is_pair p.dst n (entries d) ≡ true) number pair in
      let none = own_unpaired d p.dst h.asks in
      grind arith

  never_resets : p.part ≡ Conn kinds.Reset → ⊥
  never_resets e =
      let said : IsSaid k.piece d p.src.0 p.dst (Conn kinds.Reset) =
      subst (IsSaid k.piece d p.src.0 p.dst) e flying.says in
      let less = said.1 in
      let n = number in
      omega arith

  another_peer : (y : Session) → peer_of u.end ≡ Some y → y.0 ≡ p.src.0
  another_peer y e = number_of y p.src (same_Some y p.src (sym e ∙ peer))

  replies : AreFrom u.end.talk.mine
      (record { src = u.end.talk.mine; dst = p.src.0; part = Conn kinds.Ack } ∷ [])
  replies = one_from u.end.talk.mine p.src.0 (Conn kinds.Ack)

  pub up_hears : UpHears u d up left p (input_of u.end p)
  up_hears =
      by_drained_rules (UpHears u d up left p) u.end p k.near.out (record {
        connecting_connect = λ e q. absurd (let is = h.is_up in grind arith);
        connecting_connect_ack = λ e q to. absurd (let is = h.is_up in grind arith);
        connecting_ack = λ e q to. absurd (let is = h.is_up in grind arith);
        connecting_other = λ e x y z. absurd (let is = h.is_up in grind arith);
        up_lower = λ y e l. absurd (let n = another_peer y e in omega arith);
        up_greater = λ y e l. absurd (let n = another_peer y e in omega arith);
        up_connect = λ e q.
            record {
              half = stays _ _ refl e replies;
              ticks = omega arith;
              answers = λ z. (refl, inl (refl, number));
            };
        up_not_mine = λ e q to.
            record {
              half = stays _ _ refl e (none_from u.end.talk.mine);
              ticks = omega arith;
              answers = λ z. absurd (q z);
            };
        up_reset = λ between q. absurd (never_resets q);
        up_connect_ack = λ between q.
            record {
              half = stays _ _ refl between.from replies;
              ticks = omega arith;
              answers = λ z. absurd (grind arith);
            };
        up_ack = λ between q. absurd (never_confirms (inl q));
        frames_acked = λ next between q. absurd (never_confirms (inr (ap kind_in q)));
        frames_missed = λ next count between q. absurd (never_confirms (inr (ap kind_in q)));
        old = λ next seq frame between q l. absurd (never_confirms (inr (ap kind_in q)));
        early_again = λ next seq frame between q l w. absurd (never_confirms (inr (ap kind_in q)));
        early = λ next seq frame between q l w. absurd (never_confirms (inr (ap kind_in q)));
        taken = λ next frame between q m. absurd (never_confirms (inr (ap kind_in q)));
        taken_whole = λ next frame m between q w. absurd (never_confirms (inr (ap kind_in q)));
        taken_broken = λ next frame between q w. absurd (never_confirms (inr (ap kind_in q)));
      })

-- what a packet from the side that is up makes of the connecting one: it goes on connecting, or
-- both are up with each other
pub record DownHears (u d : HalfState) (left down : List Packet) (p : Packet) (r : Reaction Input)
    : Type 0 where
  pub goes :
      HalfOpen u (after d r) left (down ++ r.state.out)
      ⊎ (Together u (after d r) × (r.state.ticks ≡ 0))
  -- an ACK to its session takes it up, and data don't
  pub acked : IsAckTo (mine_of d) p → Together u (after d r) × (r.state.ticks ≡ 0)
  pub data_ignored :
      kind_in p.part ≡ None → HalfOpen u (after d r) left (down ++ r.state.out)

module _ (u d : HalfState) (left down : List Packet) (p : Packet) (out : d.end.out ≡ [])
    (h : HalfOpen u d (p ∷ left) down) where
  goes_on : (c : HalfState) (sent : List Packet) → c.end.talk ≡ d.end.talk
      → AreFrom d.end.talk.mine sent → HalfOpen u c left (down ++ sent)
  goes_on c sent talk from =
      record {
        is_up = h.is_up ∙ ap (λ t. Some t.mine) (sym talk);
        asks = ap (λ t. standing_peer t.standing) talk ∙ h.asks;
        from_up = All-tail (λ q. q.src ≡ u.end.talk.mine) p left h.from_up;
        from_down = subst (λ t. AreFrom t.mine (down ++ sent)) (sym talk)
            (All-append (λ q. q.src ≡ d.end.talk.mine) down sent h.from_down from);
      }

  -- it goes up with the sender
  up_with_sender : (d2 : HalfState) → d2.end.talk.mine ≡ d.end.talk.mine
      → peer_of d2.end ≡ Some p.src → Together u d2
  up_with_sender d2 mine is =
      record {
        near = h.is_up ∙ ap (λ x. Some x) (sym mine);
        far = is ∙ ap (λ x. Some x)
            (All-head (λ q. q.src ≡ u.end.talk.mine) p left h.from_up);
      }

  is_connecting : IsBetween (drained d.end) p → ⊥
  is_connecting between = let none = h.asks in let up = between.from in grind arith

  answers : AreFrom d.end.talk.mine
      (record { src = d.end.talk.mine; dst = p.src.0; part = Conn kinds.ConnectAck } ∷ [])
  answers = one_from d.end.talk.mine p.src.0 (Conn kinds.ConnectAck)

  pub down_hears : DownHears u d left down p (input_of d.end p)
  down_hears =
      by_drained_rules (DownHears u d left down p) d.end p out (record {
        connecting_connect = λ e q.
            record {
              goes = inl (goes_on _ _ refl answers);
              acked = λ z. absurd (let other = z.0 in grind arith);
              data_ignored = λ z. goes_on _ _ refl answers;
            };
        connecting_connect_ack = λ e q to.
            record {
              goes = inr (up_with_sender _ refl refl, refl);
              acked = λ z. (up_with_sender _ refl refl, refl);
              data_ignored = λ z. absurd (let kind = ap kind_in q in grind arith);
            };
        connecting_ack = λ e q to.
            record {
              goes = inr (up_with_sender _ refl refl, refl);
              acked = λ z. (up_with_sender _ refl refl, refl);
              data_ignored = λ z. absurd (let kind = ap kind_in q in grind arith);
            };
        connecting_other = λ e x y z.
            record {
              goes = inl (goes_on _ _ refl (none_from d.end.talk.mine));
              acked = λ w. absurd (z w.0 w.1);
              data_ignored = λ w. goes_on _ _ refl (none_from d.end.talk.mine);
            };
        up_lower = λ y e l. absurd (let none = h.asks in grind arith);
        up_greater = λ y e l. absurd (let none = h.asks in grind arith);
        up_connect = λ e q. absurd (let none = h.asks in grind arith);
        up_not_mine = λ e q to. absurd (let none = h.asks in grind arith);
        up_reset = λ between q. absurd (is_connecting between);
        up_connect_ack = λ between q. absurd (is_connecting between);
        up_ack = λ between q. absurd (is_connecting between);
        frames_acked = λ next between q. absurd (is_connecting between);
        frames_missed = λ next count between q. absurd (is_connecting between);
        old = λ next seq frame between q l. absurd (is_connecting between);
        early_again = λ next seq frame between q l w. absurd (is_connecting between);
        early = λ next seq frame between q l w. absurd (is_connecting between);
        taken = λ next frame between q m. absurd (is_connecting between);
        taken_whole = λ next frame m between q w. absurd (is_connecting between);
        taken_broken = λ next frame between q w. absurd (is_connecting between);
      })

-- the side that is up offers a message
pub half_offered : (u d : HalfState) (up down : List Packet) (m : Message) (peer : Session)
    → u.end.out ≡ [] → peer_of u.end ≡ Some peer → HalfOpen u d up down
    → HalfOpen (offered u m) d (up ++ offered_out u m) down
half_offered u d up down m peer out e h =
    let so = offered_so u m peer out e in
    record {
      is_up = ap (λ t. standing_peer t.standing) so.talk ∙ h.is_up;
      asks = h.asks;
      from_up = subst (λ t. AreFrom t.mine (up ++ offered_out u m)) (sym so.talk)
          (All-append (λ q. q.src ≡ u.end.talk.mine) up (offered_out u m) h.from_up so.from);
      from_down = h.from_down;
    }
