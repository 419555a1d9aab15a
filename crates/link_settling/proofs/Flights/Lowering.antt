-- Each packet that comes and leaves its place, whichever that is, lowers the measure, by the rules
-- of an end.
use Rattle.std.proofs.Common.{◌≡◌, ◌⊎◌, ◌+◌, ◌<◌, ◌≤◌, ℕ, Bool, true, Option, Some, None, List, []}
use Rattle.std.proofs.Common.{◌∷◌, ◌++◌, length, map, refl, sym, ap, ◌∙◌, arith, inl, inr}
use Rattle.std.proofs.lemmas.Option.{slice_get_within}
use Rattle.linx_base.specs.declared.identity.Session.{Session}
use Rattle.linx_base.specs.declared.frame.ConnKind.TheVariants as kinds
use Rattle.linx_base.specs.declared.frame.Frame.{Frame}
use Rattle.linx_base.specs.declared.frame.Message.{Message}
use Rattle.linx_base.specs.declared.frame.SentFrame.{SentFrame}
use Rattle.ethcm_headers.specs.declared.packets.Packet.{Packet}
use Rattle.ethcm_headers.specs.declared.packets.Part.{Part}
use Rattle.ethcm_headers.specs.declared.packets.Part.TheVariants.{Conn, Ack, Nack, Piece}
use Rattle.ethcm_window.specs.Sending.{after_ack, coming_in, sent_again, sent_frame}
use Rattle.ethcm_window.specs.Receiving.{kept_early, missing_count}
use Rattle.fragmenter.specs.Streams.{frames_of}
use Rattle.ethcm_end.specs.declared.answers.Input.{Input}
use Rattle.ethcm_end.specs.declared.answers.Input.TheVariants as inputs
use Rattle.ethcm_end.specs.States.{EndState, Reaction, peer_of}
use Rattle.ethcm_end.specs.Rules.{acked, heard, input_of, nacked, piece_packet, put, put_ack}
use Rattle.ethcm_end.specs.Rules.{take_frames, with_early}
use Rattle.ethcm_end.specs.Rows.{IsBetween, after_header, up}
use Rattle.ethcm_end.proofs.Taking.{takes_in_turn}
use Rattle.carrier.specs.Records.{HalfState, entries, mine_of, source}
use Rattle.carrier.specs.Events.{drained}
use Rattle.carrier.specs.Keeping.{IsFlying}
use Rattle.carrier.proofs.Flying.{piece_heard}
use Rattle.link_settling.specs.Measure.{Falls, connects, due, ends_up, may_ask, measure_of}
use Rattle.link_settling.specs.Measure.{nacks, others, pieces, total, unsent, untaken, weighed}
use Rattle.link_settling.proofs.Flights.Counting.{acks, behind, pieces_alone, total-append}
use Rattle.link_settling.proofs.Flights.Counting.{total_none, total_one}
use Rattle.link_settling.proofs.Flights.AllSent.{by_drained_rules}
use Rattle.link_settling.proofs.Flights.Steps.{after}
use Rattle.link_settling.proofs.Flights.Weights.{weighed_as_much, weighed_more}

-- ---- what is less

-- the session goes on: what stays the same, and what was handed up still is
record Stays (weight : Message → ℕ) (a c : HalfState) : Type 0 where
  pub mine : mine_of c ≡ mine_of a
  pub peer : peer_of c.end ≡ peer_of a.end
  pub offered : c.offered ≡ a.offered
  pub past : c.past ≡ a.past
  pub piece : c.end.piece ≡ a.end.piece
  pub handed : weighed weight a.handed ≤ weighed weight c.handed

-- what was offered to a session says nothing of what its side was given
same_source : (weight : Message → ℕ) (a c : HalfState) (x : ℕ) (peer : Option Session)
    → Stays weight a c → source (entries c) x peer ≡ source (entries a) x peer
same_source weight a c x None s = refl
same_source weight a c x (Some y) s = rw (s.mine, s.peer, s.offered, s.past) refl

-- the frames that are offered to side a
abbrev frames_to : HalfState → HalfState → List Frame
frames_to a b = frames_of b.end.piece (source (entries b) (mine_of a) (peer_of a.end))

module _ (weight : Message → ℕ) (a b c : HalfState) (stays : Stays weight a c) where
  far_untaken : untaken b c ≡ untaken b a
  far_untaken =
      let same = same_source weight a c (mine_of b) (peer_of b.end) stays in
      rw (same, stays.piece) refl

  far_due : due weight b c ≡ due weight b a
  far_due =
      let same = same_source weight a c (mine_of b) (peer_of b.end) stays in
      rw same refl

  near_due : due weight c b ≤ due weight a b
  near_due = let h = stays.handed in rw (stays.mine, stays.peer) (omega arith)

  near_frames : frames_to c b ≡ frames_to a b
  near_frames = rw (stays.mine, stays.peer) refl

  near_untaken : a.end.rx.expected ≤ c.end.rx.expected → untaken c b ≤ untaken a b
  near_untaken h = rw near_frames (omega arith)

  near_taken : a.end.rx.expected < c.end.rx.expected
      → a.end.rx.expected < length (frames_to a b) → untaken c b < untaken a b
  near_taken h l = rw near_frames (omega arith)

module _ (weight : Message → ℕ) (a b : HalfState) (there back left : List Packet) (p : Packet)
    (gone : (f : Part → ℕ) → total f back ≡ f p.part + total f left) where
  -- side a becomes this one and sends these, and p is gone: the measure is less
  unfoldable pub Lower : HalfState → List Packet → Type 0
  Lower c out =
      Falls (measure_of weight c b (there ++ out) left) (measure_of weight a b there back)

  -- fewer packets make connections
  by_connecting : (c : HalfState) (out : List Packet) → total connects out < connects p.part
      → Lower c out
  unfolding Lower
  by_connecting c out h =
      let n = total-append connects there out in
      let o = gone connects in
      inl (omega arith)

  -- an end went down
  by_down : (c : HalfState) (out : List Packet) (peer : Session) → peer_of a.end ≡ Some peer
      → peer_of c.end ≡ None → total connects out ≡ 0 → Lower c out
  unfolding Lower
  by_down c out peer e none z =
      let n = total-append connects there out in
      let o = gone connects in
      let was : ends_up (peer_of a.end) ≡ 1 = rw e refl in
      let is : ends_up (peer_of c.end) ≡ 0 = rw none refl in
      inr (omega arith, inl (omega arith))

  -- frames were taken
  by_taken : (c : HalfState) (out : List Packet) → Stays weight a c → total connects out ≡ 0
      → a.end.rx.expected < c.end.rx.expected → a.end.rx.expected < length (frames_to a b)
      → Lower c out
  unfolding Lower
  by_taken c out s z h l =
      let n = total-append connects there out in
      let o = gone connects in
      let same = far_untaken weight a b c s in
      let less = near_taken weight a b c s h l in
      let up : ends_up (peer_of c.end) ≡ ends_up (peer_of a.end) = ap ends_up s.peer in
      let far = far_due weight a b c s in
      let near = near_due weight a b c s in
      inr (omega arith, inr (omega arith, inr (omega arith, inl (omega arith))))

  -- no frame was taken: frames came into the window, or something that is in flight is less
  by_rest : (c : HalfState) (out : List Packet) → Stays weight a c → total connects out ≡ 0
      → a.end.rx.expected ≡ c.end.rx.expected → unsent c.end.tx ≤ unsent a.end.tx
      → (unsent c.end.tx < unsent a.end.tx) ⊎ (
      (may_ask (peer_of c.end) c.end.asked + total nacks out
      < may_ask (peer_of a.end) a.end.asked + nacks p.part) ⊎ (
      (may_ask (peer_of c.end) c.end.asked + total nacks out
      ≤ may_ask (peer_of a.end) a.end.asked + nacks p.part) × (
      (total pieces out < pieces p.part) ⊎ (
      (total pieces out ≤ pieces p.part) × (total others out < others p.part)))))
      → Lower c out
  unfolding Lower
  by_rest c out s z h w rest =
      let cn = total-append connects there out in
      let nn = total-append nacks there out in
      let pn = total-append pieces there out in
      let on = total-append others there out in
      let co = gone connects in
      let no = gone nacks in
      let po = gone pieces in
      let oo = gone others in
      let same = far_untaken weight a b c s in
      let less = near_untaken weight a b c s (omega arith) in
      let up : ends_up (peer_of c.end) ≡ ends_up (peer_of a.end) = ap ends_up s.peer in
      let far = far_due weight a b c s in
      let near = near_due weight a b c s in
      inr (
        omega arith,
        inr (
          omega arith,
          inr (
            omega arith,
            inr (
              omega arith,
              elim rest [
                | inl sent ↦ inl (omega arith)
                | inr more ↦ inr (
                  omega arith,
                  elim more [
                    | inl asks ↦ inl (omega arith)
                    | inr as_many ↦ let q = as_many.0 in inr (
                      omega arith,
                      elim as_many.1 [
                        | inl fewer ↦ inl (omega arith)
                        | inr last ↦
                            let l = last.0 in
                            let m = last.1 in
                            inr (omega arith, omega arith)
                      ],
                    )
                  ],
                )
              ],
            ),
          ),
        ),
      )

  -- the packet is gone, and that is all
  module _ (c : HalfState) (s : Stays weight a c) (tx : c.end.tx ≡ a.end.tx) (rx : c.end.rx ≡ a.end.rx)
      (asked : c.end.asked ≡ a.end.asked) where
    gone_from : (total connects [] < connects p.part) ⊎ ((total connects [] ≡ 0)
        × ((nacks p.part ≡ 1) ⊎ ((pieces p.part ≡ 1) ⊎ (others p.part ≡ 1))))
        → Lower c []
    gone_from h =
        let zn = total_none nacks in
        let zp = total_none pieces in
        let zo = total_none others in
        let expected : a.end.rx.expected ≡ c.end.rx.expected = rw rx refl in
        let same : unsent c.end.tx ≡ unsent a.end.tx = rw tx refl in
        let asks : may_ask (peer_of c.end) c.end.asked ≡ may_ask (peer_of a.end) a.end.asked =
        rw (s.peer, asked) refl in
        elim h [
          | inl less ↦ by_connecting c [] less
          | inr none ↦ by_rest c [] s none.0 expected (omega arith) (elim none.1 [
            | inl nack ↦ inr (inl (omega arith))
            | inr more ↦ inr (inr (
              omega arith,
              elim more [
                | inl piece ↦ inl (omega arith)
                | inr other ↦ inr (omega arith, omega arith)
              ],
            ))
          ])
        ]

    gone_part : (part : Part) → p.part ≡ part → Lower c []
    gone_part (Conn kinds.Connect) e =
        let z = total_none connects in
        let one : connects p.part ≡ 3 = ap connects e in
        gone_from (inl (omega arith))
    gone_part (Conn kinds.ConnectAck) e =
        let z = total_none connects in
        let one : connects p.part ≡ 2 = ap connects e in
        gone_from (inl (omega arith))
    gone_part (Conn kinds.Ack) e =
        let z = total_none connects in
        let one : connects p.part ≡ 1 = ap connects e in
        gone_from (inl (omega arith))
    gone_part (Conn kinds.Reset) e = gone_from (inr (total_none connects, inr (inr (ap others e))))
    gone_part (Ack next) e = gone_from (inr (total_none connects, inr (inr (ap others e))))
    gone_part (Nack next count) e = gone_from (inr (total_none connects, inl (ap nacks e)))
    gone_part (Piece next seq frame) e =
        gone_from (inr (total_none connects, inr (inl (ap pieces e))))

    by_gone : Lower c []
    by_gone = gone_part p.part refl

-- ---- the rules

-- a frame of the expected number was offered
taken_below : (a b : HalfState) (p : Packet) (piece next : ℕ) (frame : Frame)
    → b.end.piece ≡ piece → IsFlying piece b a p → IsBetween (drained a.end) p
    → p.part ≡ Piece next a.end.rx.expected frame
    → a.end.rx.expected < length (frames_to a b)
taken_below a b p piece next frame cut f between k =
    let heard = piece_heard piece a b p next a.end.rx.expected frame f
    (record { from = between.from; to = between.to }) k in
    rw cut (slice_get_within _ a.end.rx.expected frame heard.frame_is)

pub taken_rises : (a : HalfState) (frame : Frame)
    → a.end.rx.expected < (take_frames (drained a.end) frame).rx.expected
taken_rises a frame =
    let turn = takes_in_turn a.end.rx a.end.held frame in
    let e = turn.expected in
    omega arith

module _ (weight : Message → ℕ) (a b : HalfState) (there back left : List Packet) (p : Packet)
    (gone : (f : Part → ℕ) → total f back ≡ f p.part + total f left) where
  -- what the end makes of the packet lowers the measure
  abbrev pub LowerBy : Reaction Input → Type 0
  LowerBy r = Lower weight a b there back left p gone (after a r) r.state.out

  -- a packet of these parts, whatever else it does
  fewer : (c : HalfState) (was is : Part) (reply : Packet) → p.part ≡ was → reply.part ≡ is
      → connects is < connects was → Lower weight a b there back left p gone c (reply ∷ [])
  fewer c was is reply e q less =
      let old : connects p.part ≡ connects was = ap connects e in
      let one : total connects (reply ∷ []) ≡ connects is =
      total_one connects reply ∙ ap connects q in
      by_connecting weight a b there back left p gone c (reply ∷ []) (omega arith)

  ignored : LowerBy (record { state = drained a.end; answer = inputs.Nothing })
  ignored =
      by_gone weight a b there back left p gone (record a { end = drained a.end })
      (record {
        mine = refl;
        peer = refl;
        offered = refl;
        past = refl;
        piece = refl;
        handed = weighed_as_much weight a.handed;
      })
      refl refl refl

  module _ (between : IsBetween (drained a.end) p) where
    asks_as : (asked : Bool) → may_ask (peer_of a.end) asked ≡ may_ask (Some p.src) asked
    asks_as asked = ap (λ peer. may_ask peer asked) between.from

    module _ (next : ℕ) where
      -- the pieces that come into the window
      abbrev coming : EndState → List Packet
      coming s = map (piece_packet s p.src) (coming_in a.end.tx (after_ack a.end.tx next))

      came : (s : EndState) → (unsent (after_ack a.end.tx next) < unsent a.end.tx)
          ⊎ (total pieces (coming s) ≡ 0)
      came s =
          elim (acks a.end.tx next).less_or_none [
            | inl less ↦ inl less
            | inr none ↦
                inr (ap (λ l. total pieces (map (piece_packet s p.src) l)) none
                ∙ total_none pieces)
          ]

      -- an ACK
      lower_acked : (c : HalfState) (s : EndState) → Stays weight a c → p.part ≡ Ack next
          → a.end.rx.expected ≡ c.end.rx.expected → c.end.tx ≡ after_ack a.end.tx next
          → may_ask (peer_of c.end) c.end.asked ≡ may_ask (peer_of a.end) a.end.asked
          → Lower weight a b there back left p gone c (coming s)
      lower_acked c s stays k rx tx asks =
          let alone = pieces_alone s p.src (coming_in a.end.tx (after_ack a.end.tx next)) in
          let same : unsent c.end.tx ≡ unsent (after_ack a.end.tx next) = ap unsent tx in
          let upto = (acks a.end.tx next).upto in
          let nz = alone.nack in
          let oz = alone.other in
          let one : others p.part ≡ 1 = ap others k in
          by_rest weight a b there back left p gone c (coming s) stays alone.connect rx (omega arith)
          (elim (came s) [
            | inl less ↦ inl (omega arith)
            | inr none ↦ inr (inr (omega arith, inr (omega arith, omega arith)))
          ])

      -- a piece that isn't taken, and one reply at most
      lower_piece : (c : HalfState) (out : List Packet) (s : EndState) (seq : ℕ) (frame : Frame)
          → Stays weight a c → p.part ≡ Piece next seq frame
          → a.end.rx.expected ≡ c.end.rx.expected → c.end.tx ≡ after_ack a.end.tx next
          → total connects out ≡ 0 → total pieces out ≡ total pieces (coming s)
          → may_ask (peer_of c.end) c.end.asked + total nacks out
          ≤ may_ask (peer_of a.end) a.end.asked
          → Lower weight a b there back left p gone c out
      lower_piece c out s seq frame stays k rx tx z as_many asks =
          let same : unsent c.end.tx ≡ unsent (after_ack a.end.tx next) = ap unsent tx in
          let upto = (acks a.end.tx next).upto in
          let one : pieces p.part ≡ 1 = ap pieces k in
          let no : nacks p.part ≡ 0 = ap nacks k in
          by_rest weight a b there back left p gone c out stays z rx (omega arith)
          (elim (came s) [
            | inl less ↦ inl (omega arith)
            | inr none ↦ inr (inr (omega arith, inl (omega arith)))
          ])

      -- a piece that is taken, and an ACK
      lower_taken : (c : HalfState) (s : EndState) (frame : Frame) (reply : Packet) (piece : ℕ)
          → b.end.piece ≡ piece → IsFlying piece b a p → Stays weight a c
          → p.part ≡ Piece next a.end.rx.expected frame → connects reply.part ≡ 0
          → a.end.rx.expected < c.end.rx.expected
          → Lower weight a b there back left p gone c (coming s ++ reply ∷ [])
      lower_taken c s frame reply piece cut f stays k z rises =
          let alone = pieces_alone s p.src (coming_in a.end.tx (after_ack a.end.tx next)) in
          by_taken weight a b there back left p gone c (coming s ++ reply ∷ []) stays
          ((behind (coming s) reply alone).connect ∙ z) rises
          (taken_below a b p piece next frame cut f between k)

  -- what a packet in flight makes of an end
  pub lowers : (piece : ℕ) → b.end.piece ≡ piece → a.end.out ≡ [] → IsFlying piece b a p
      → LowerBy (input_of a.end p)
  lowers piece cut out f =
      let s : ℕ → EndState = λ next. record (heard (up (drained a.end) p.src true)) {
        tx = after_ack a.end.tx next;
      } in
      let sent : ℕ → List SentFrame = λ next. coming_in a.end.tx (after_ack a.end.tx next) in
      let alone = λ (next : ℕ). pieces_alone (s next) p.src (sent next) in
      let stays : (c : HalfState) → mine_of c ≡ mine_of a → peer_of c.end ≡ Some p.src
      → c.offered ≡ a.offered → c.past ≡ a.past → c.end.piece ≡ a.end.piece
      → weighed weight a.handed ≤ weighed weight c.handed → IsBetween (drained a.end) p
      → Stays weight a c =
      λ c m q o w n h between.
      record {
        mine = m;
        peer = q ∙ sym between.from;
        offered = o;
        past = w;
        piece = n;
        handed = h;
      } in
      let same = weighed_as_much weight a.handed in
      by_drained_rules LowerBy a.end p out (record {
        connecting_connect = λ e k.
            fewer _ (Conn kinds.Connect) (Conn kinds.ConnectAck) _ k refl (omega arith);
        connecting_connect_ack = λ e k d.
            fewer _ (Conn kinds.ConnectAck) (Conn kinds.Ack) _ k refl (omega arith);
        connecting_ack = λ e k d.
            let z = total_none connects in
            let one : connects p.part ≡ 1 = ap connects k in
            by_connecting weight a b there back left p gone _ [] (omega arith);
        connecting_other = λ e x y z. ignored;
        up_lower = λ peer e h. ignored;
        up_greater = λ peer e h.
            by_down weight a b there back left p gone _ [] peer e refl (total_none connects);
        up_connect = λ e k.
            fewer _ (Conn kinds.Connect) (Conn kinds.Ack) _ k refl (omega arith);
        up_not_mine = λ e k d. ignored;
        up_reset = λ between k.
            by_down weight a b there back left p gone _ [] p.src between.from refl (total_none connects);
        up_connect_ack = λ between k.
            fewer _ (Conn kinds.ConnectAck) (Conn kinds.Ack) _ k refl (omega arith);
        up_ack = λ between k.
            let z = total_none connects in
            let one : connects p.part ≡ 1 = ap connects k in
            by_connecting weight a b there back left p gone _ [] (omega arith);
        frames_acked = λ next between k.
            lower_acked between next _ (s next) (stays _ refl refl refl refl refl same between) k refl
            refl (sym (asks_as between a.end.asked));
        frames_missed = λ next count between k.
            let again : List SentFrame = sent_again (after_ack a.end.tx next) next count in
            let first = alone next in
            let second = pieces_alone (acked (heard (up (drained a.end) p.src true)) p.src next)
            p.src (sent_again (after_ack a.end.tx next) next count) in
            let c1 = first.connect in
            let c2 = second.connect in
            let n1 = first.nack in
            let n2 = second.nack in
            let cs = total-append connects (coming between next (s next))
            (map (piece_packet (s next) p.src) again) in
            let ns = total-append nacks (coming between next (s next))
            (map (piece_packet (s next) p.src) again) in
            let one : nacks p.part ≡ 1 = ap nacks k in
            let asks = asks_as between a.end.asked in
            let is : EndState =
            nacked (heard (up (drained a.end) p.src true)) p.src next count in
            by_rest weight a b there back left p gone (record a { end = drained is }) is.out
            (stays _ refl refl refl refl refl same between) (omega arith) refl
            (acks a.end.tx next).upto (inr (inl (omega arith)));
        old = λ next seq frame between k h.
            let reply : Packet =
            record { src = a.end.talk.mine; dst = p.src.0; part = Ack a.end.rx.expected } in
            let w = behind (coming between next (s next)) reply (alone next) in
            let n = w.nack in
            let q = w.piece in
            let asks = asks_as between a.end.asked in
            let is : EndState = put_ack (after_header (drained a.end) p.src next) p.src in
            let as_many : total pieces is.out ≡ total pieces (coming between next (s next)) =
            omega arith in
            lower_piece between next (record a { end = drained is }) is.out (s next) seq frame
            (stays _ refl refl refl refl refl same between) k refl refl w.connect as_many
            (omega arith);
        early_again = λ next seq frame between k h asked.
            let n = (alone next).nack in
            let asks = asks_as between a.end.asked in
            let is : EndState =
            with_early (after_header (drained a.end) p.src next) (sent_frame seq frame) in
            lower_piece between next (record a { end = drained is }) is.out (s next) seq frame
            (stays _ refl refl refl refl refl same between) k refl refl (alone next).connect refl
            (omega arith);
        early = λ next seq frame between k h asked.
            let kept : List SentFrame =
            kept_early a.end.rx.expected a.end.rx.kept (sent_frame seq frame) in
            let reply : Packet =
            record {
              src = a.end.talk.mine;
              dst = p.src.0;
              part = Nack a.end.rx.expected (missing_count a.end.rx.expected kept);
            } in
            let w = behind (coming between next (s next)) reply (alone next) in
            let n = w.nack in
            let q = w.piece in
            let asks : may_ask (peer_of a.end) a.end.asked ≡ 2 =
            asks_as between a.end.asked ∙ ap (λ v. may_ask (Some p.src) v) asked in
            let with_kept : EndState =
            with_early (after_header (drained a.end) p.src next) (sent_frame seq frame) in
            let is : EndState = record (put with_kept p.src reply.part) { asked = true } in
            let as_many : total pieces is.out ≡ total pieces (coming between next (s next)) =
            omega arith in
            lower_piece between next (record a { end = drained is }) is.out (s next) seq frame
            (stays _ refl refl refl refl refl same between) k refl refl w.connect as_many
            (omega arith);
        taken = λ next frame between k m.
            lower_taken between next _ (s next) frame _ piece cut f
            (stays _ refl refl refl refl refl same between) k refl (taken_rises a frame);
        taken_whole = λ next frame m between k w.
            lower_taken between next _ (s next) frame _ piece cut f
            (stays _ refl refl refl refl refl (weighed_more weight a.handed (m ∷ [])) between) k
            refl (taken_rises a frame);
        taken_broken = λ next frame between k w.
            by_down weight a b there back left p gone _ _ p.src between.from refl (alone next).connect;
      })
