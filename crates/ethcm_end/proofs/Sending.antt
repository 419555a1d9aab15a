-- Each packet that an event sends names the end's session and its partner's, and a piece is the
-- frame of its number.
use Rattle.std.proofs.Common.{◌≡◌, ◌-◌, ◌≤◌, ℕ, zero, suc, leb, Option, Some, None, List, [], ◌∷◌}
use Rattle.std.proofs.Common.{◌++◌, All, take, drop, map, refl, sym, ap, subst, ◌∙◌, arith, inl}
use Rattle.std.proofs.Common.{inr, append_assoc, slice_get, append-nil, take-append-drop}
use Rattle.std.proofs.lemmas.List.Elements.{All-nil, All-cons, All-append, All-filter, All-map}
use Rattle.std.proofs.lemmas.List.Elements.{All-take, All-weaker}
use Rattle.linx_base.specs.declared.identity.Session.{Session}
use Rattle.linx_base.specs.declared.frame.ConnKind.TheVariants as kinds
use Rattle.linx_base.specs.declared.frame.Frame.{Frame}
use Rattle.linx_base.specs.declared.frame.Message.{Message}
use Rattle.linx_base.specs.declared.frame.SentFrame.{SentFrame}
use Rattle.ethcm_headers.specs.declared.packets.Packet.{Packet}
use Rattle.ethcm_headers.specs.declared.packets.Part.{Part}
use Rattle.ethcm_headers.specs.declared.packets.Part.TheVariants.{Conn, Ack, Nack, Piece}
use Rattle.ethcm_session.specs.declared.standing.Standing.{Standing}
use Rattle.ethcm_session.specs.declared.standing.Standing.TheVariants.{Connecting, Up}
use Rattle.ethcm_session.specs.Table.{standing_peer}
use Rattle.ethcm_window.specs.Sending.{Sender, after_ack, coming_in, from_number, numbered_from}
use Rattle.ethcm_window.specs.Sending.{sent_again, sent_end, sent_frame, unacknowledged}
use Rattle.ethcm_end.specs.States.{EndState, peer_of}
use Rattle.ethcm_end.specs.Rules.{input_of, offer_in, offer_of, packet_of, piece_packet, tick_of}
use Rattle.ethcm_end.proofs.ByRule.{by_rules, by_tick_rules}
use Rattle.ethcm_end.specs.Windows.{HasFrame, IsSent, PacketsNameSessions, PartSays, SendsPackets}
use Rattle.ethcm_end.specs.Windows.{peer_or_unknown}
use Rattle.ethcm_end.proofs.Rising.{begins, by_ack, down}

-- ---- the frames of a window

-- the sender has this frame, by its number
abbrev Has : Sender → SentFrame → Type 0
Has tx sent = HasFrame tx sent.number sent.frame

-- the element at the head of what is left
at_head : {X : Type 0} (n : ℕ) (all : List X) (x : X) (rest : List X) → drop n all ≡ x ∷ rest
    → (slice_get all n ≡ Some x) × (drop (suc n) all ≡ rest)
at_head zero [] x rest e = absurd (grind arith)
at_head zero (y ∷ ys) x rest e = (grind arith, grind arith)
at_head (suc n) [] x rest e = absurd (grind arith)
at_head (suc n) (y ∷ ys) x rest e = at_head n ys x rest e

-- the frames from a number on have their numbers
numbered_has : (tx : Sender) (n : ℕ) (xs rest : List Frame) → tx.base ≤ n
    → drop (n - tx.base) tx.frames ≡ xs ++ rest → All (Has tx) (numbered_from n xs)
unfolding numbered_from
numbered_has tx n [] rest h e = All-nil (Has tx)
numbered_has tx n (x ∷ xs) rest h e =
    let here = at_head (n - tx.base) tx.frames x (xs ++ rest) e in
    let next : suc (n - tx.base) ≡ suc n - tx.base = omega arith in
    let later : drop (suc n - tx.base) tx.frames ≡ xs ++ rest =
    subst (λ k. drop k tx.frames ≡ xs ++ rest) next here.1 in
    All-cons (Has tx) (sent_frame n x) (numbered_from (suc n) xs) (h, here.0)
    (numbered_has tx (suc n) xs rest (omega arith) later)

module _ (tx : Sender) where
  window_has : All (Has tx) (unacknowledged tx)
  window_has =
      let none : tx.base - tx.base ≡ 0 = omega arith in
      let all : drop (tx.base - tx.base) tx.frames
      ≡ take tx.window tx.frames ++ drop tx.window tx.frames =
      ap (λ k. drop k tx.frames) none ∙ sym (take-append-drop tx.window tx.frames) in
      numbered_has tx tx.base (take tx.window tx.frames) (drop tx.window tx.frames) (omega arith)
      all

  -- after an acknowledgement the window has frames that the sender had before
  acked_has : (next : ℕ) → All (Has tx) (unacknowledged (after_ack tx next))
  acked_has next =
      by_ack (λ new. All (Has tx) (unacknowledged new)) tx next window_has (λ from to.
      let left : List Frame = drop (next - tx.base) tx.frames in
      numbered_has tx next (take tx.window left) (drop tx.window left) from
      (sym (take-append-drop tx.window left)))

  coming_has : (next : ℕ) → All (Has tx) (coming_in tx (after_ack tx next))
  coming_has next =
      All-filter (λ s. leb (sent_end tx) s.number) (Has tx) (unacknowledged (after_ack tx next))
      (acked_has next)

  again_has : (next count : ℕ) → All (Has tx) (sent_again (after_ack tx next) next count)
  again_has next count =
      All-take (Has tx) count (from_number next (unacknowledged (after_ack tx next)))
      (All-filter (λ s. leb next s.number) (Has tx) (unacknowledged (after_ack tx next))
      (acked_has next))

-- ---- packets behind those that are still to go out

module _ (tx : Sender) (old new : EndState) (to : Session) where
  sends : (packets : List Packet) → new.out ≡ old.out ++ packets
      → All (IsSent tx old new to) packets → SendsPackets tx old new to
  sends packets added sent = record { packets = packets; added = added; sent = sent }

  none : new.out ≡ old.out → SendsPackets tx old new to
  none e = sends [] (e ∙ sym (append-nil old.out)) (All-nil (IsSent tx old new to))

  -- a packet of this session
  is : (mid : EndState) (part : Part) → mid.talk.mine ≡ old.talk.mine → PartSays tx old new to part
      → IsSent tx old new to (packet_of mid to part)
  is mid part mine says = record { src = mine; dst = refl; says = says }

  all_one : (mid : EndState) (part : Part) → mid.talk.mine ≡ old.talk.mine
      → PartSays tx old new to part → All (IsSent tx old new to) (packet_of mid to part ∷ [])
  all_one mid part mine says =
      All-cons (IsSent tx old new to) (packet_of mid to part) [] (is mid part mine says)
      (All-nil (IsSent tx old new to))

  -- one packet
  one : (mid : EndState) (part : Part) → mid.talk.mine ≡ old.talk.mine → PartSays tx old new to part
      → new.out ≡ old.out ++ packet_of mid to part ∷ [] → SendsPackets tx old new to
  one mid part mine says added =
      sends (packet_of mid to part ∷ []) added (all_one mid part mine says)

  module _ (peer : peer_of old ≡ Some to) where
    -- pieces of the frames of the sender
    all_pieces : (mid : EndState) (sent : List SentFrame) → mid.talk.mine ≡ old.talk.mine
        → mid.rx.expected ≡ old.rx.expected → All (Has tx) sent
        → All (IsSent tx old new to) (map (piece_packet mid to) sent)
    all_pieces mid sent mine expected has =
        All-map (IsSent tx old new to) (piece_packet mid to) sent
        (All-weaker (Has tx) (λ f. IsSent tx old new to (piece_packet mid to f))
        (λ f h. is mid (Piece mid.rx.expected f.number f.frame) mine (peer, (inl expected, h)))
        sent has)

    pieces : (mid : EndState) (sent : List SentFrame) → mid.talk.mine ≡ old.talk.mine
        → mid.rx.expected ≡ old.rx.expected → All (Has tx) sent
        → new.out ≡ old.out ++ map (piece_packet mid to) sent → SendsPackets tx old new to
    pieces mid sent mine expected has added =
        sends (map (piece_packet mid to) sent) added (all_pieces mid sent mine expected has)

    -- pieces, and then further packets
    pieces_then : (mid : EndState) (sent : List SentFrame) (packets : List Packet)
        → mid.talk.mine ≡ old.talk.mine → mid.rx.expected ≡ old.rx.expected → All (Has tx) sent
        → All (IsSent tx old new to) packets
        → new.out ≡ (old.out ++ map (piece_packet mid to) sent) ++ packets → SendsPackets tx old new to
    pieces_then mid sent packets mine expected has more added =
        sends (map (piece_packet mid to) sent ++ packets)
        (added ∙ append_assoc old.out (map (piece_packet mid to) sent) packets)
        (All-append (IsSent tx old new to) (map (piece_packet mid to) sent) packets
        (all_pieces mid sent mine expected has) more)

-- ---- a packet

input_sends : (s : EndState) (p : Packet) → SendsPackets s.tx s (input_of s p).state p.src
input_sends s p =
    by_rules (λ r. SendsPackets s.tx s r.state p.src) s p (record {
      connecting_connect = λ e k. one s.tx s _ p.src s (Conn kinds.ConnectAck) refl e refl;
      connecting_connect_ack = λ e k d. one s.tx s _ p.src s (Conn kinds.Ack) refl refl refl;
      connecting_ack = λ e k d. none s.tx s _ p.src refl;
      connecting_other = λ e a b c. none s.tx s s p.src refl;
      up_lower = λ peer e h. none s.tx s s p.src refl;
      up_greater = λ peer e h. none s.tx s _ p.src refl;
      up_connect = λ e k. one s.tx s _ p.src s (Conn kinds.Ack) refl e refl;
      up_not_mine = λ e k d. none s.tx s s p.src refl;
      up_reset = λ b k. none s.tx s _ p.src refl;
      up_connect_ack = λ b k. one s.tx s _ p.src s (Conn kinds.Ack) refl b.from refl;
      up_ack = λ b k. none s.tx s _ p.src refl;
      frames_acked = λ next b k.
          pieces s.tx s _ p.src b.from s _ refl refl (coming_has s.tx next) refl;
      frames_missed = λ next count b k.
          pieces_then s.tx s _ p.src b.from s _ _ refl refl (coming_has s.tx next)
          (all_pieces s.tx s _ p.src b.from s _ refl refl (again_has s.tx next count)) refl;
      old = λ next seq frame b k h.
          pieces_then s.tx s _ p.src b.from s _ _ refl refl (coming_has s.tx next)
          (all_one s.tx s _ p.src s (Ack s.rx.expected) refl (b.from, inl refl)) refl;
      early_again = λ next seq frame b k h a.
          pieces s.tx s _ p.src b.from s _ refl refl (coming_has s.tx next) refl;
      early = λ next seq frame b k h a.
          pieces_then s.tx s _ p.src b.from s _ _ refl refl (coming_has s.tx next)
          (all_one s.tx s _ p.src s (Nack s.rx.expected _) refl (b.from, inl refl)) refl;
      taken = λ next frame b k m.
          pieces_then s.tx s _ p.src b.from s _ _ refl refl (coming_has s.tx next)
          (all_one s.tx s _ p.src s (Ack _) refl (b.from, inr refl)) refl;
      taken_whole = λ next frame m b k w.
          pieces_then s.tx s _ p.src b.from s _ _ refl refl (coming_has s.tx next)
          (all_one s.tx s _ p.src s (Ack _) refl (b.from, inr refl)) refl;
      taken_broken = λ next frame b k w.
          pieces s.tx s _ p.src b.from s _ refl refl (coming_has s.tx next) refl;
    })

-- ---- a tick

-- where the peer is known
to_partner : (s new : EndState) (tx : Sender) (standing : Option Session) → peer_of s ≡ standing
    → SendsPackets tx s new (peer_or_unknown standing) → SendsPackets tx s new (peer_or_unknown (peer_of s))
to_partner s new tx standing e h = subst (λ q. SendsPackets tx s new (peer_or_unknown q)) (sym e) h

tick_sends : (s : EndState) → SendsPackets s.tx s (tick_of s).state (peer_or_unknown (peer_of s))
tick_sends s =
    by_tick_rules (λ r. SendsPackets s.tx s r.state (peer_or_unknown (peer_of s))) s (record {
      connecting = λ e.
          to_partner s _ s.tx None e
          (one s.tx s _ (record { 0 = 0 }) s (Conn kinds.Connect) refl (e, refl) refl);
      lost = λ peer e h.
          to_partner s _ s.tx (Some peer) e
          (one s.tx s _ peer s (Conn kinds.Reset) refl
          (e, down s _ peer e refl refl (begins _ refl refl refl refl refl)) refl);
      again = λ peer e h q.
          to_partner s _ s.tx (Some peer) e
          (pieces s.tx s _ peer e s _ refl refl (window_has s.tx) refl);
      idle = λ peer e h q.
          to_partner s _ s.tx (Some peer) e (one s.tx s _ peer s (Conn kinds.Ack) refl e refl);
    })

-- ---- an offer

offer_in_sends : (s : EndState) (standing : Standing) (m : Message) → s.talk.standing ≡ standing
    → SendsPackets (offer_in s standing m).tx s (offer_in s standing m) (peer_or_unknown (peer_of s))
offer_in_sends s Connecting m e = none s.tx s s (peer_or_unknown (peer_of s)) refl
offer_in_sends s (Up peer confirmed) m e =
    let up : peer_of s ≡ Some peer = ap standing_peer e in
    let new : EndState = offer_in s (Up peer confirmed) m in
    to_partner s new new.tx (Some peer) up
    (pieces new.tx s new peer up s _ refl refl
    (All-filter (λ f. leb (sent_end s.tx) f.number) (Has new.tx) (unacknowledged new.tx)
    (window_has new.tx)) refl)

offer_sends : (s : EndState) (m : Message)
    → SendsPackets (offer_of s m).tx s (offer_of s m) (peer_or_unknown (peer_of s))
unfolding offer_of
offer_sends s m = offer_in_sends s s.talk.standing m refl

pub packets_name_sessions : PacketsNameSessions
packets_name_sessions =
    record { input = input_sends; tick = tick_sends; offer = offer_sends }
