-- A direction of two sides that are up with each other, in which nothing was lost since a tick:
-- that from side a to side b.
use Rattle.std.proofs.Common.{◌≡◌, ◌<◌, ◌≤◌, ℕ, eqb, true, Option, Some, None, List, [], ◌∷◌, ◌++◌}
use Rattle.std.proofs.Common.{All, map, refl, sym, ap, subst, ◌∙◌, arith, inr, append_assoc}
use Rattle.std.proofs.lemmas.Bool.Decides.{nat_tests}
use Rattle.std.proofs.lemmas.List.Elements.{All-append, All-cons, All-head, All-nil, All-tail}
use Rattle.std.proofs.lemmas.Option.{same_Some}
use Rattle.linx_base.specs.declared.frame.ConnKind.TheVariants as kinds
use Rattle.linx_base.specs.declared.frame.Frame.{Frame}
use Rattle.linx_base.specs.declared.frame.Message.{Message}
use Rattle.linx_base.specs.declared.frame.SentFrame.{SentFrame}
use Rattle.linx_base.specs.declared.identity.Session.{Session}
use Rattle.ethcm_headers.specs.declared.packets.Packet.{Packet}
use Rattle.ethcm_headers.specs.declared.packets.Part.{Part}
use Rattle.ethcm_headers.specs.declared.packets.Part.TheVariants.{Conn, Ack, Nack, Piece}
use Rattle.ethcm_window.specs.Sending.{after_ack, coming_in, sent_again, sent_end, with_frames}
use Rattle.fragmenter.specs.Pieces.{pieces_of}
use Rattle.ethcm_end.specs.States.{EndState, peer_of}
use Rattle.ethcm_end.specs.Rules.{heard, kind_in, piece_packet, take_frames}
use Rattle.ethcm_end.specs.Rows.{up}
use Rattle.carrier.specs.Records.{HalfState, entries, is_pair, mine_of, names}
use Rattle.carrier.specs.Events.{drained}
use Rattle.carrier.specs.Keeping.{IsFlying}
use Rattle.carrier.proofs.Flying.{pair_said}
use Rattle.carrier.proofs.Lookups.{same_number}
use Rattle.link_settling.specs.Measure.{nacks}
use Rattle.link_settling.proofs.Flights.Flows.{FitsAt, Flows, RunsFrom, Tells, flows_acked}
use Rattle.link_settling.proofs.Flights.Flows.{flows_offered, flows_other, flows_pass, flows_put}
use Rattle.link_settling.proofs.Flights.Flows.{flows_take, flows_told, last_append, last_next}
use Rattle.link_settling.proofs.Flights.Flows.{next_in, number_after, pieces_tell, tells_append}
use Rattle.link_settling.proofs.Sides.HalfOpen.{AreFrom, Together, none_from, number_of, one_from}
use Rattle.link_settling.proofs.Sides.HalfOpen.{pieces_from, together_came, turned_together}
use Rattle.link_settling.proofs.Flights.Lowering.{taken_rises}
use Rattle.link_settling.proofs.Flights.AllSent.{by_drained_rules, by_offer}
use Rattle.link_settling.proofs.Flights.Steps.{Holds, Lasts, after, came, came_out, offered}
use Rattle.link_settling.proofs.Flights.Steps.{offered_out, turned_holds}

-- none of these packets asks for frames again
abbrev pub NoneAsks : List Packet → Type 0
NoneAsks ps = All (λ p. nacks p.part ≡ 0) ps

pub record InOrder (a b : HalfState) (there back : List Packet) : Type 0 where
  pub together : Together a b
  pub from_there : AreFrom a.end.talk.mine there
  pub from_back : AreFrom b.end.talk.mine back
  pub none_asks : NoneAsks back
  pub flows : Flows a.end.tx b.end.rx.expected there back

-- ---- what a packet between them says

-- where it is no data, it has no number and acknowledges nothing
conn_number : (part : Part) → (kind_in part ≡ None → ⊥) → (k : ℕ) → number_after k part ≡ k
conn_number (Conn kind) h k = refl
conn_number (Ack next) h k = absurd (h refl)
conn_number (Nack next count) h k = absurd (h refl)
conn_number (Piece next seq frame) h k = absurd (h refl)

conn_next : (part : Part) → (kind_in part ≡ None → ⊥) → (k : ℕ) → next_in k part ≡ k
conn_next (Conn kind) h k = refl
conn_next (Ack next) h k = absurd (h refl)
conn_next (Nack next count) h k = absurd (h refl)
conn_next (Piece next seq frame) h k = absurd (h refl)

named_at : (x : ℕ) (y : Session) (peer : Option Session) → peer ≡ Some y → names x peer ≡ true
    → x ≡ y.0
named_at x y peer e h = let q : eqb y.0 x ≡ true = rw e at h in grind (arith, nat_tests)

pair_is : (b : HalfState) (y : Session) (x : ℕ) → peer_of b.end ≡ Some y
    → is_pair x (mine_of b) (entries b) ≡ true → x ≡ y.0
pair_is b y x e h =
    let own : names x (peer_of b.end) ≡ true = rw (same_number (mine_of b)) at h in
    named_at x y (peer_of b.end) e own

-- data of the present session are to the present session
to_me : (piece : ℕ) (a b : HalfState) (p : Packet) → IsFlying piece b a p → Together a b
    → p.src ≡ b.end.talk.mine → kind_in p.part ≡ None → p.dst ≡ mine_of a
to_me piece a b p f t src e =
    let pair = pair_said piece b p.src.0 p.dst p.part (inr e) f.says in
    pair_is b a.end.talk.mine p.dst t.far
    (subst (λ n. is_pair p.dst n (entries b) ≡ true) (number_of p.src b.end.talk.mine src) pair)

pub pieces_ask_none : (s : EndState) (to : Session) (sent : List SentFrame)
    → NoneAsks (map (piece_packet s to) sent)
pieces_ask_none s to [] = All-nil (λ p. nacks p.part ≡ 0)
pieces_ask_none s to (f ∷ sent) =
    All-cons (λ p. nacks p.part ≡ 0) (piece_packet s to f) (map (piece_packet s to) sent) refl
    (pieces_ask_none s to sent)

pub one_asks_none : (p : Packet) → nacks p.part ≡ 0 → NoneAsks (p ∷ [])
one_asks_none p e =
    All-cons (λ q. nacks q.part ≡ 0) p [] e (All-nil (λ q. nacks q.part ≡ 0))

-- ---- the sender gets a packet

module _ (a b : HalfState) (there left : List Packet) (p : Packet)
    (k : Holds a b there (p ∷ left)) (o : InOrder a b there (p ∷ left)) where
  s_flying : IsFlying k.piece b a p
  s_flying = All-head (IsFlying k.piece b a) p left k.far.packets

  s_src : p.src ≡ b.end.talk.mine
  s_src = All-head (λ q. q.src ≡ b.end.talk.mine) p left o.from_back

  s_peer : peer_of a.end ≡ Some p.src
  s_peer = o.together.near ∙ ap (λ x. Some x) (sym s_src)

  s_other : (y : Session) → peer_of a.end ≡ Some y → y.0 ≡ p.src.0
  s_other y e = number_of y p.src (same_Some y p.src (sym e ∙ s_peer))

  -- the side that is still up with the other is in its session
  s_mine : (c : HalfState) → Together c b → c.end.talk.mine ≡ a.end.talk.mine
  s_mine c t = same_Some _ _ (sym t.far ∙ o.together.far)

  s_in_order : (c : HalfState) (out : List Packet) → Together c b → AreFrom a.end.talk.mine out
      → Flows c.end.tx b.end.rx.expected (there ++ out) left → InOrder c b (there ++ out) left
  s_in_order c out t from flows =
      record {
        together = t;
        from_there = subst (λ x. AreFrom x (there ++ out)) (sym (s_mine c t))
            (All-append (λ q. q.src ≡ a.end.talk.mine) there out o.from_there from);
        from_back = All-tail (λ q. q.src ≡ b.end.talk.mine) p left o.from_back;
        none_asks = All-tail (λ q. nacks q.part ≡ 0) p left o.none_asks;
        flows = flows;
      }

  -- it acknowledged nothing, and packets that are no pieces are replied
  s_passed : (c : HalfState) (out : List Packet) → c.end.tx ≡ a.end.tx
      → (kind_in p.part ≡ None → ⊥) → AreFrom a.end.talk.mine out
      → RunsFrom (sent_end a.end.tx) (sent_end a.end.tx) out → Together c b
      → InOrder c b (there ++ out) left
  s_passed c out tx conn from none t =
      s_in_order c out t from
      (subst (λ x. Flows x b.end.rx.expected (there ++ out) left) (sym tx)
      (flows_put a.end.tx b.end.rx.expected there left out none
      (flows_pass a.end.tx b.end.rx.expected there left p (conn_next p.part conn a.end.tx.base)
      o.flows)))

  s_base : a.end.tx.base ≤ b.end.rx.expected
  s_base = k.near.bound.base_taken b.end.talk.mine o.together.near refl

  module _ (s : EndState) (next : ℕ) (mine : s.talk.mine ≡ a.end.talk.mine)
      (tells : (n : ℕ) → next_in n p.part ≡ next) where
    abbrev coming : List Packet
    coming = map (piece_packet s p.src) (coming_in a.end.tx (after_ack a.end.tx next))

    coming_from : AreFrom a.end.talk.mine coming
    coming_from =
        subst (λ x. AreFrom x coming) mine
        (pieces_from s p.src (coming_in a.end.tx (after_ack a.end.tx next)))

    flows_coming : Flows (after_ack a.end.tx next) b.end.rx.expected (there ++ coming) left
    flows_coming =
        flows_acked s p.src a.end.tx b.end.rx.expected next p there left tells s_base o.flows

    -- it acknowledged
    s_acked : (c : HalfState) → c.end.tx ≡ after_ack a.end.tx next → Together c b
        → InOrder c b (there ++ coming) left
    s_acked c tx t =
        s_in_order c coming t coming_from
        (subst (λ x. Flows x b.end.rx.expected (there ++ coming) left) (sym tx) flows_coming)

    -- and a packet that is no piece is replied
    s_replied : (c : HalfState) (reply : Packet) → c.end.tx ≡ after_ack a.end.tx next
        → reply.src ≡ a.end.talk.mine
        → RunsFrom (sent_end (after_ack a.end.tx next)) (sent_end (after_ack a.end.tx next))
        (reply ∷ []) → Together c b → InOrder c b (there ++ (coming ++ reply ∷ [])) left
    s_replied c reply tx src none t =
        s_in_order c (coming ++ reply ∷ []) t
        (All-append (λ q. q.src ≡ a.end.talk.mine) coming (reply ∷ []) coming_from
        (All-cons (λ q. q.src ≡ a.end.talk.mine) reply [] src
        (All-nil (λ q. q.src ≡ a.end.talk.mine))))
        (subst (λ x. Flows x b.end.rx.expected (there ++ (coming ++ reply ∷ [])) left) (sym tx)
        (subst (λ l. Flows (after_ack a.end.tx next) b.end.rx.expected l left)
        (append_assoc there coming (reply ∷ []))
        (flows_put (after_ack a.end.tx next) b.end.rx.expected (there ++ coming) left
        (reply ∷ []) none flows_coming)))

  -- the sender is still up, whatever came
  s_up : (c : HalfState) → Together c b → peer_of c.end ≡ None → ⊥
  s_up c t none = let is = t.near in grind arith

  s_data : kind_in p.part ≡ None → p.dst ≡ mine_of a
  s_data e = to_me k.piece a b p s_flying o.together s_src e

  s_asks : (next count : ℕ) → p.part ≡ Nack next count → ⊥
  s_asks next count q =
      let none = All-head (λ x. nacks x.part ≡ 0) p left o.none_asks in
      let one : nacks p.part ≡ 1 = ap nacks q in
      omega arith

  sender_row : Together (came a p) b → InOrder (came a p) b (there ++ came_out a p) left
  sender_row =
      let x : Session = a.end.talk.mine in
      let s : ℕ → EndState = λ next. record (heard (up (drained a.end) p.src true)) {
        tx = after_ack a.end.tx next;
      } in
      let tells : (part : Part) (next : ℕ) → p.part ≡ part
      → ((n : ℕ) → next_in n part ≡ next) → (n : ℕ) → next_in n p.part ≡ next =
      λ part next q is n. ap (λ w. next_in n w) q ∙ is n in
      let conn : (kind : Part) → p.part ≡ kind → (kind_in kind ≡ None → ⊥)
      → kind_in p.part ≡ None → ⊥ =
      λ kind q is e. is (sym (ap kind_in q) ∙ e) in
      by_drained_rules (λ r. Together (after a r) b
      → InOrder (after a r) b (there ++ r.state.out) left) a.end p k.near.out (record {
        connecting_connect = λ e q t. absurd (s_up a o.together e);
        connecting_connect_ack = λ e q d t. absurd (s_up a o.together e);
        connecting_ack = λ e q d t. absurd (s_up a o.together e);
        connecting_other = λ e u v w t. absurd (s_up a o.together e);
        up_lower = λ y e l t. absurd (let n = s_other y e in omega arith);
        up_greater = λ y e l t. absurd (let n = s_other y e in omega arith);
        up_connect = λ e q.
            s_passed _ _ refl (conn (Conn kinds.Connect) q (λ z. grind arith))
            (one_from x p.src.0 (Conn kinds.Ack)) (tt, refl);
        up_not_mine = λ e q d.
            s_passed _ _ refl (λ z. d (s_data z)) (none_from x) refl;
        up_reset = λ between q t. absurd (s_up _ t refl);
        up_connect_ack = λ between q.
            s_passed _ _ refl (conn (Conn kinds.ConnectAck) q (λ z. grind arith))
            (one_from x p.src.0 (Conn kinds.Ack)) (tt, refl);
        up_ack = λ between q.
            s_passed _ _ refl (conn (Conn kinds.Ack) q (λ z. grind arith)) (none_from x) refl;
        frames_acked = λ next between q.
            s_acked (s next) next refl (tells (Ack next) next q (λ n. refl)) _ refl;
        frames_missed = λ next count between q t. absurd (s_asks next count q);
        old = λ next seq frame between q l.
            s_replied (s next) next refl (tells (Piece next seq frame) next q (λ n. refl)) _ _
            refl refl (tt, refl);
        early_again = λ next seq frame between q l w.
            s_acked (s next) next refl (tells (Piece next seq frame) next q (λ n. refl)) _ refl;
        early = λ next seq frame between q l w.
            s_replied (s next) next refl (tells (Piece next seq frame) next q (λ n. refl)) _ _
            refl refl (tt, refl);
        taken = λ next frame between q m.
            s_replied (s next) next refl
            (tells (Piece next a.end.rx.expected frame) next q (λ n. refl)) _ _ refl refl
            (tt, refl);
        taken_whole = λ next frame m between q w.
            s_replied (s next) next refl
            (tells (Piece next a.end.rx.expected frame) next q (λ n. refl)) _ _ refl refl
            (tt, refl);
        taken_broken = λ next frame between q w t. absurd (s_up _ t refl);
      })

  pub sender_came : InOrder (came a p) b (there ++ came_out a p) left
  sender_came = sender_row (together_came a b there left p k o.together)

-- ---- the receiver gets a packet

module _ (a b : HalfState) (left back : List Packet) (p : Packet)
    (k : Holds a b (p ∷ left) back) (o : InOrder a b (p ∷ left) back) where
  r_flying : IsFlying k.piece a b p
  r_flying = All-head (IsFlying k.piece a b) p left k.near.packets

  r_src : p.src ≡ a.end.talk.mine
  r_src = All-head (λ q. q.src ≡ a.end.talk.mine) p left o.from_there

  r_peer : peer_of b.end ≡ Some p.src
  r_peer = o.together.far ∙ ap (λ x. Some x) (sym r_src)

  r_other : (y : Session) → peer_of b.end ≡ Some y → y.0 ≡ p.src.0
  r_other y e = number_of y p.src (same_Some y p.src (sym e ∙ r_peer))

  r_mine : (c : HalfState) → Together a c → c.end.talk.mine ≡ b.end.talk.mine
  r_mine c t = same_Some _ _ (sym t.near ∙ o.together.near)

  r_up : (c : HalfState) → Together a c → peer_of c.end ≡ None → ⊥
  r_up c t none = let is = t.far in grind arith

  r_data : kind_in p.part ≡ None → p.dst ≡ mine_of b
  r_data e = to_me k.piece b a p r_flying (turned_together a b o.together) r_src e

  -- what it sent
  record Replies (out : List Packet) : Type 0 where
    pub from : AreFrom b.end.talk.mine out
    pub none_asks : NoneAsks out

  r_in_order : (c : HalfState) (out : List Packet) → Together a c → Replies out
      → Flows a.end.tx c.end.rx.expected left (back ++ out) → InOrder a c left (back ++ out)
  r_in_order c out t sent flows =
      record {
        together = t;
        from_there = All-tail (λ q. q.src ≡ a.end.talk.mine) p left o.from_there;
        from_back = subst (λ x. AreFrom x (back ++ out)) (sym (r_mine c t))
            (All-append (λ q. q.src ≡ b.end.talk.mine) back out o.from_back sent.from);
        none_asks = All-append (λ q. nacks q.part ≡ 0) back out o.none_asks sent.none_asks;
        flows = flows;
      }

  -- it was no piece
  r_passed : (c : HalfState) (out : List Packet) → c.end.rx.expected ≡ b.end.rx.expected
      → ((n : ℕ) → number_after n p.part ≡ n) → Replies out → Tells b.end.rx.expected out
      → Together a c → InOrder a c left (back ++ out)
  r_passed c out rx none sent tells t =
      r_in_order c out t sent
      (subst (λ n. Flows a.end.tx n left (back ++ out)) (sym rx)
      (flows_other a.end.tx b.end.rx.expected p left back out none tells o.flows))

  module _ (s : EndState) (mine : s.talk.mine ≡ b.end.talk.mine) where
    pieces_reply : (sent : List SentFrame) → Replies (map (piece_packet s p.src) sent)
    pieces_reply sent =
        record {
          from = subst (λ x. AreFrom x (map (piece_packet s p.src) sent)) mine
              (pieces_from s p.src sent);
          none_asks = pieces_ask_none s p.src sent;
        }

    -- it was a piece, and what is expected then was told
    r_took : (c : HalfState) (sent : List SentFrame) (reply : Packet) (next seq now : ℕ)
        (frame : Frame) → p.part ≡ Piece next seq frame → c.end.rx.expected ≡ now
        → b.end.rx.expected ≤ now → (seq ≡ b.end.rx.expected → b.end.rx.expected < now)
        → reply.src ≡ b.end.talk.mine → reply.part ≡ Ack now → Together a c
        → c.end.rx.expected ≤ sent_end a.end.tx
        → InOrder a c left (back ++ (map (piece_packet s p.src) sent ++ reply ∷ []))
    r_took c sent reply next seq now frame is rx up took src part t upto =
        let pieces : List Packet = map (piece_packet s p.src) sent in
        let before = pieces_reply sent in
        r_in_order c (map (piece_packet s p.src) sent ++ reply ∷ []) t (record {
          from = All-append (λ q. q.src ≡ b.end.talk.mine) pieces (reply ∷ []) before.from
              (All-cons (λ q. q.src ≡ b.end.talk.mine) reply [] src
              (All-nil (λ q. q.src ≡ b.end.talk.mine)));
          none_asks = All-append (λ q. nacks q.part ≡ 0) pieces (reply ∷ []) before.none_asks
              (one_asks_none reply (ap nacks part));
        })
        (subst (λ n. Flows a.end.tx n left
        (back ++ (map (piece_packet s p.src) sent ++ reply ∷ []))) (sym rx)
        (flows_take a.end.tx b.end.rx.expected now p left back
        (map (piece_packet s p.src) sent ++ reply ∷ []) next seq frame o.flows is up took
        (omega arith) (λ n. last_append n (map (piece_packet s p.src) sent) (reply ∷ [])
        ∙ ap (λ w. next_in (last_next n (map (piece_packet s p.src) sent)) w) part)))

  -- in order no piece comes early
  r_early : (next seq : ℕ) (frame : Frame) → p.part ≡ Piece next seq frame
      → b.end.rx.expected < seq → ⊥
  r_early next seq frame q early =
      let here : seq ≡ o.flows.first = subst (λ w. FitsAt o.flows.first w) q o.flows.run.0 in
      let from = o.flows.from in
      omega arith

  one_reply : (dst : ℕ) (part : Part) → nacks part ≡ 0
      → Replies (record { src = b.end.talk.mine; dst = dst; part = part } ∷ [])
  one_reply dst part e =
      record { from = one_from b.end.talk.mine dst part; none_asks = one_asks_none _ e }

  no_reply : Replies []
  no_reply =
      record { from = none_from b.end.talk.mine; none_asks = All-nil (λ q. nacks q.part ≡ 0) }

  both_replies : (xs ys : List Packet) → Replies xs → Replies ys → Replies (xs ++ ys)
  both_replies xs ys h g =
      record {
        from = All-append (λ q. q.src ≡ b.end.talk.mine) xs ys h.from g.from;
        none_asks = All-append (λ q. nacks q.part ≡ 0) xs ys h.none_asks g.none_asks;
      }

  receiver_row : Together a (came b p) → (came b p).end.rx.expected ≤ sent_end a.end.tx
      → InOrder a (came b p) left (back ++ came_out b p)
  receiver_row =
      let s : ℕ → EndState = λ next. record (heard (up (drained b.end) p.src true)) {
        tx = after_ack b.end.tx next;
      } in
      let sent : ℕ → List SentFrame = λ next. coming_in b.end.tx (after_ack b.end.tx next) in
      let conn : (kind : Part) → p.part ≡ kind → (kind_in kind ≡ None → ⊥)
      → (n : ℕ) → number_after n p.part ≡ n =
      λ kind q is. conn_number p.part (λ e. is (sym (ap kind_in q) ∙ e)) in
      let has_none : (part : Part) → p.part ≡ part → ((n : ℕ) → number_after n part ≡ n)
      → (n : ℕ) → number_after n p.part ≡ n =
      λ part q is n. ap (λ w. number_after n w) q ∙ is n in
      by_drained_rules (λ r. Together a (after b r)
      → (after b r).end.rx.expected ≤ sent_end a.end.tx
      → InOrder a (after b r) left (back ++ r.state.out)) b.end p k.far.out (record {
        connecting_connect = λ e q t u. absurd (r_up b o.together e);
        connecting_connect_ack = λ e q d t u. absurd (r_up b o.together e);
        connecting_ack = λ e q d t u. absurd (r_up b o.together e);
        connecting_other = λ e v w x t u. absurd (r_up b o.together e);
        up_lower = λ y e l t u. absurd (let n = r_other y e in omega arith);
        up_greater = λ y e l t u. absurd (let n = r_other y e in omega arith);
        up_connect = λ e q t u.
            r_passed _ _ refl (conn (Conn kinds.Connect) q (λ z. grind arith))
            (one_reply p.src.0 (Conn kinds.Ack) refl) (refl, tt) t;
        up_not_mine = λ e q d t u.
            r_passed _ _ refl (conn_number p.part (λ z. d (r_data z))) no_reply tt t;
        up_reset = λ between q t u. absurd (r_up _ t refl);
        up_connect_ack = λ between q t u.
            r_passed _ _ refl (conn (Conn kinds.ConnectAck) q (λ z. grind arith))
            (one_reply p.src.0 (Conn kinds.Ack) refl) (refl, tt) t;
        up_ack = λ between q t u.
            r_passed _ _ refl (conn (Conn kinds.Ack) q (λ z. grind arith)) no_reply tt t;
        frames_acked = λ next between q t u.
            r_passed _ _ refl (has_none (Ack next) q (λ n. refl))
            (pieces_reply (s next) refl (sent next))
            (pieces_tell (s next) p.src (sent next)) t;
        frames_missed = λ next count between q t u.
            let again : List SentFrame = sent_again (after_ack b.end.tx next) next count in
            r_passed _ _ refl (has_none (Nack next count) q (λ n. refl))
            (both_replies (map (piece_packet (s next) p.src) (sent next))
            (map (piece_packet (s next) p.src) again) (pieces_reply (s next) refl (sent next))
            (pieces_reply (s next) refl again))
            (tells_append b.end.rx.expected (map (piece_packet (s next) p.src) (sent next))
            (map (piece_packet (s next) p.src) again)
            (pieces_tell (s next) p.src (sent next)) (pieces_tell (s next) p.src again)) t;
        old = λ next seq frame between q l t u.
            r_took (s next) refl _ (sent next) _ next seq b.end.rx.expected frame q refl
            (omega arith) (λ same. absurd (omega arith)) refl refl t u;
        early_again = λ next seq frame between q l w t u.
            absurd (r_early next seq frame q l);
        early = λ next seq frame between q l w t u. absurd (r_early next seq frame q l);
        taken = λ next frame between q m t u.
            let rises = taken_rises b frame in
            r_took (s next) refl _ (sent next) _ next b.end.rx.expected
            (take_frames (drained b.end) frame).rx.expected frame q refl (omega arith)
            (λ same. rises) refl refl t u;
        taken_whole = λ next frame m between q w t u.
            let rises = taken_rises b frame in
            r_took (s next) refl _ (sent next) _ next b.end.rx.expected
            (take_frames (drained b.end) frame).rx.expected frame q refl (omega arith)
            (λ same. rises) refl refl t u;
        taken_broken = λ next frame between q w t u. absurd (r_up _ t refl);
      })

  -- all that is taken was sent
  pub receiver_came : Holds a (came b p) left (back ++ came_out b p)
      → InOrder a (came b p) left (back ++ came_out b p)
  receiver_came now =
      let t = turned_together _ _ (together_came b a back left p
      (turned_holds a b (p ∷ left) back k) (turned_together a b o.together)) in
      receiver_row t (now.far.bound.was_sent a.end.talk.mine t.far refl).taken

-- ---- an offer

module _ (a b : HalfState) (there back : List Packet) (m : Message) (peer : Session)
    (k : Holds a b there back) where
  -- by the sender
  sender_offered : peer_of a.end ≡ Some peer → InOrder a b there back
      → InOrder (offered a m) b (there ++ offered_out a m) back
  sender_offered e o =
      let is = by_offer a.end m peer k.near.out e in
      let mid : EndState =
      record (drained a.end) { tx = with_frames a.end.tx (pieces_of m a.end.piece) } in
      let sent : List SentFrame =
      coming_in a.end.tx (with_frames a.end.tx (pieces_of m a.end.piece)) in
      subst (λ (s : EndState). InOrder (record {
        end = drained s;
        offered = a.offered ++ m ∷ [];
        handed = a.handed;
        past = a.past;
      }) b (there ++ s.out) back) (sym is) (record {
        together = record { near = o.together.near; far = o.together.far };
        from_there = All-append (λ q. q.src ≡ a.end.talk.mine) there
            (map (piece_packet mid peer) sent) o.from_there (pieces_from mid peer sent);
        from_back = o.from_back;
        none_asks = o.none_asks;
        flows = flows_offered mid peer a.end.tx (pieces_of m a.end.piece) b.end.rx.expected there
            back o.flows;
      })

  -- by the receiver
  receiver_offered : peer_of b.end ≡ Some peer → InOrder a b there back
      → InOrder a (offered b m) there (back ++ offered_out b m)
  receiver_offered e o =
      let is = by_offer b.end m peer k.far.out e in
      let mid : EndState =
      record (drained b.end) { tx = with_frames b.end.tx (pieces_of m b.end.piece) } in
      let sent : List SentFrame =
      coming_in b.end.tx (with_frames b.end.tx (pieces_of m b.end.piece)) in
      subst (λ (s : EndState). InOrder a (record {
        end = drained s;
        offered = b.offered ++ m ∷ [];
        handed = b.handed;
        past = b.past;
      }) there (back ++ s.out)) (sym is) (record {
        together = record { near = o.together.near; far = o.together.far };
        from_there = o.from_there;
        from_back = All-append (λ q. q.src ≡ b.end.talk.mine) back
            (map (piece_packet mid peer) sent) o.from_back (pieces_from mid peer sent);
        none_asks = All-append (λ q. nacks q.part ≡ 0) back
            (map (piece_packet mid peer) sent) o.none_asks (pieces_ask_none mid peer sent);
        flows = flows_told a.end.tx b.end.rx.expected there back
            (map (piece_packet mid peer) sent) (pieces_tell mid peer sent) o.flows;
      })

pub in_order_lasts : Lasts InOrder
in_order_lasts =
    record {
      near_came = λ a b there left p k now o. sender_came a b there left p k o;
      far_came = λ a b left back p k now o. receiver_came a b left back p k o now;
      near_offered = λ a b there back m peer e k now o.
          sender_offered a b there back m peer k e o;
      far_offered = λ a b there back m peer e k now o.
          receiver_offered a b there back m peer k e o;
    }
