-- Each event leaves an end sound, and what it sends are packets.
use Rattle.std.proofs.Common.{◌≡◌, ◌≢◌, if◌then◌else◌, ℕ, suc, ◌+◌, ◌-◌, ◌^◌, ◌<◌, ◌≤◌, Bool, true}
use Rattle.std.proofs.Common.{false, ltb, leb, ◌&&◌, Option, List, [], ◌∷◌, ◌++◌, length, take}
use Rattle.std.proofs.Common.{drop, map, All, refl, ap, sym, subst, arith, inl, inr, le-ltb}
use Rattle.std.proofs.Common.{leb-true, lt-ltb, ltb-true, length-append, length-take, length-drop}
use Rattle.std.proofs.lemmas.Bool.{cases_lt}
use Rattle.std.proofs.lemmas.Bool.Decides.{eqb_tells}
use Rattle.std.proofs.lemmas.List.Elements.{All-nil, All-cons, All-head, All-tail, All-append}
use Rattle.std.proofs.lemmas.List.Elements.{All-take, All-drop, All-filter, All-map}
use Rattle.linx_base.specs.declared.identity.Session.{Session}
use Rattle.linx_base.specs.declared.frame.ConnKind.{ConnKind}
use Rattle.linx_base.specs.declared.frame.ConnKind.TheVariants as kinds
use Rattle.linx_base.specs.declared.frame.Frame.{Frame}
use Rattle.linx_base.specs.declared.frame.Message.{Message}
use Rattle.linx_base.specs.declared.frame.SentFrame.{SentFrame}
use Rattle.linx_base.specs.Frames.{FitsFrame, IsFrame, IsMessage}
use Rattle.ethcm_headers.specs.declared.packets.Packet.{Packet}
use Rattle.ethcm_headers.specs.declared.packets.Part.{Part}
use Rattle.ethcm_headers.specs.declared.packets.Part.TheVariants.{Conn, Ack, Nack, Piece}
use Rattle.ethcm_headers.specs.Packets.{FitsPart, IsPacket, IsPart}
use Rattle.ethcm_session.specs.declared.standing.Standing.{Standing}
use Rattle.ethcm_session.specs.declared.standing.Standing.TheVariants.{Connecting, Up}
use Rattle.ethcm_session.specs.declared.standing.TalkState.{TalkState}
use Rattle.ethcm_session.specs.Table.{HasNext, after_down, standing_peer, up_with}
use Rattle.ethcm_session.proofs.Rows.{by_rows, next_numbered}
use Rattle.ethcm_window.specs.Sending.{Sender, after_ack, coming_in, from_number, left_of}
use Rattle.ethcm_window.specs.Sending.{number_limit, numbered_from, sent_again, sent_end}
use Rattle.ethcm_window.specs.Sending.{unacknowledged, with_frames}
use Rattle.ethcm_window.specs.Receiving.{KeepsInOrder, Receiver, early_limit, kept_above}
use Rattle.ethcm_window.specs.Receiving.{kept_early, kept_with, missing_count}
use Rattle.ethcm_window.proofs.Keeping.{counts_missing, front_kept, rises_early}
use Rattle.ethcm_window.proofs.Keeping.{rises_from_expected, rises_taken}
use Rattle.fragmenter.specs.declared.joiner.Joined.{Joined}
use Rattle.fragmenter.specs.declared.joiner.Joined.TheVariants.{More, Whole, Broken}
use Rattle.fragmenter.specs.Joining.{Begun, held_after, joiner_answer}
use Rattle.fragmenter.specs.Pieces.{cut, followers, framed, pieces_of}
use Rattle.fragmenter.proofs.Cuts.{few_pieces, pieces_fit}
use Rattle.ethcm_session.specs.Loss.{lost_at}
use Rattle.ethcm_end.specs.States.{EndState, Reaction, gives}
use Rattle.ethcm_end.specs.Sound.{FitsMessage, IsKnown, IsSoundEnd, IsSoundReceiver, IsSoundSender}
use Rattle.ethcm_end.specs.Sound.{IsSoundTalk}
use Rattle.ethcm_end.specs.Rules.{acked, after_out, anew, data_in, finished, framed_in}
use Rattle.ethcm_end.specs.Rules.{gone_down, heard, input_of, kind_in, nacked, offer_in, offer_of}
use Rattle.ethcm_end.specs.Rules.{offered, packet_of, piece_packet, put, put_ack, put_pieces}
use Rattle.ethcm_end.specs.Rules.{reacts, sent_or_ack, take_frames, take_kept, tick_in, tick_of}
use Rattle.ethcm_end.specs.Rules.{tick_up, with_early, with_taken, ask}

-- ---- what goes out

-- a frame with a number, within the bounds of a packet
record IsSent (sent : SentFrame) : Type 0 where
  pub numbered : sent.number < number_limit
  pub frame : IsFrame sent.frame
  pub fits : FitsFrame sent.frame

with_out : (s : EndState) (out : List Packet) → IsSoundEnd s → All IsPacket out
    → IsSoundEnd (record s { out = out })
with_out s out k all =
    record { talk = k.talk; tx = k.tx; rx = k.rx; ticks = k.ticks; piece = k.piece; out = all }

module _ (s : EndState) (dst : Session) (part : Part) where
  -- a packet to a peer
  is_packet : IsSoundTalk s.talk → IsKnown dst → part ≢ Conn kinds.Connect → IsPart part
      → FitsPart part → IsPacket (packet_of s dst part)
  is_packet talk known other within fits =
      let above : 0 < dst.0 = known.0 in
      record {
        bounds = record {
          sender_known = talk.mine.0;
          receiver_unknown_in_connect = (λ e. absurd (omega arith), λ e. absurd (other e));
          part = within;
        };
        sender_fits = talk.mine.1;
        receiver_fits = known.1;
        part_fits = fits;
      }

  put_sound : IsSoundEnd s → IsPacket (packet_of s dst part) → IsSoundEnd (put s dst part)
  put_sound k packet =
      with_out s (s.out ++ packet_of s dst part ∷ []) k
      (All-append IsPacket s.out (packet_of s dst part ∷ []) k.out
      (All-cons IsPacket (packet_of s dst part) [] packet (All-nil IsPacket)))

  put_known : IsSoundEnd s → IsKnown dst → part ≢ Conn kinds.Connect → IsPart part → FitsPart part
      → IsSoundEnd (put s dst part)
  put_known k known other within fits =
      put_sound k (is_packet k.talk known other within fits)

put_ack_sound : (s : EndState) (peer : Session) → IsSoundEnd s → IsKnown peer
    → IsSoundEnd (put_ack s peer)
put_ack_sound s peer k known =
    let expected = k.rx.expected in
    put_known s peer (Ack s.rx.expected) k known (λ e. cc) tt (omega arith)

packets_of : (s : EndState) (dst : Session) (sent : List SentFrame) → IsSoundTalk s.talk
    → s.rx.expected ≤ number_limit → IsKnown dst → All IsSent sent
    → All (λ f. IsPacket (piece_packet s dst f)) sent
packets_of s dst [] talk expected known all = All-nil (λ f. IsPacket (piece_packet s dst f))
packets_of s dst (f ∷ fs) talk expected known all =
    let first = All-head IsSent f fs all in
    let rest = packets_of s dst fs talk expected known (All-tail IsSent f fs all) in
    let is = is_packet s dst (Piece s.rx.expected f.number f.frame) talk known (λ e. cc)
    (first.numbered, first.frame) (omega arith, first.fits) in
    All-cons (λ f. IsPacket (piece_packet s dst f)) f fs is rest

put_pieces_sound : (s : EndState) (dst : Session) (sent : List SentFrame) → IsSoundEnd s
    → IsKnown dst → All IsSent sent → IsSoundEnd (put_pieces s dst sent)
put_pieces_sound s dst sent k known all =
    with_out s (s.out ++ map (piece_packet s dst) sent) k
    (All-append IsPacket s.out (map (piece_packet s dst) sent) k.out
    (All-map IsPacket (piece_packet s dst) sent
    (packets_of s dst sent k.talk k.rx.expected known all)))

-- ---- the sender

numbered_sent : (n : ℕ) (frames : List Frame) → All IsFrame frames → All FitsFrame frames
    → n + length frames ≤ number_limit → All IsSent (numbered_from n frames)
unfolding numbered_from
numbered_sent n [] is fits h = All-nil IsSent
numbered_sent n (f ∷ fs) is fits h =
    All-cons IsSent _ _
    (record {
      numbered = omega arith;
      frame = All-head IsFrame f fs is;
      fits = All-head FitsFrame f fs fits;
    })
    (numbered_sent (suc n) fs (All-tail IsFrame f fs is) (All-tail FitsFrame f fs fits)
    (omega arith))

module _ (tx : Sender) (k : IsSoundSender tx) where
  sent_unacknowledged : All IsSent (unacknowledged tx)
  sent_unacknowledged =
      let given = k.given in
      numbered_sent tx.base (take tx.window tx.frames)
      (All-take IsFrame tx.window tx.frames k.frames)
      (All-take FitsFrame tx.window tx.frames k.fitting)
      (omega (arith, length-take tx.window tx.frames))

  sent_from : (n : ℕ) → All IsSent (from_number n (unacknowledged tx))
  sent_from n = All-filter (λ s. leb n s.number) IsSent (unacknowledged tx) sent_unacknowledged

  sent_again_sent : (next count : ℕ) → All IsSent (sent_again tx next count)
  sent_again_sent next count = All-take IsSent count _ (sent_from next)

both : (a b : Bool) → (a && b) ≡ true → (a ≡ true) × (b ≡ true)
both true true e = (refl, refl)
both true false e = absurd cc
both false b e = absurd cc

after_ack_sound : (tx : Sender) (next : ℕ) → IsSoundSender tx → IsSoundSender (after_ack tx next)
after_ack_sound tx next k =
    let freed : ℕ = next - tx.base in
    let moved : Sender = record tx { base = next; frames = drop freed tx.frames } in
    let by : (b : Bool) → (leb tx.base next && leb next (sent_end tx)) ≡ b
    → IsSoundSender (if b then moved else tx) =
    λ b. elim b as (λ v. (leb tx.base next && leb next (sent_end tx)) ≡ v
    → IsSoundSender (if v then moved else tx)) [
      | true ↦ λ e.
          let tests = both (leb tx.base next) (leb next (sent_end tx)) e in
          let from = leb-true _ _ tests.0 in
          let to = leb-true _ _ tests.1 in
          let given = k.given in
          record {
            frames = All-drop IsFrame freed tx.frames k.frames;
            fitting = All-drop FitsFrame freed tx.frames k.fitting;
            given = omega (arith, length-drop freed tx.frames);
          }
      | false ↦ λ e. k
    ] in
    by (leb tx.base next && leb next (sent_end tx)) refl

-- ---- changes of one part

with_talk : (s : EndState) (talk : TalkState) → IsSoundEnd s → IsSoundTalk talk
    → IsSoundEnd (record s { talk = talk })
with_talk s talk k sound =
    record { talk = sound; tx = k.tx; rx = k.rx; ticks = k.ticks; piece = k.piece; out = k.out }

with_tx : (s : EndState) (tx : Sender) → IsSoundEnd s → IsSoundSender tx
    → IsSoundEnd (record s { tx = tx })
with_tx s tx k sound =
    record { talk = k.talk; tx = sound; rx = k.rx; ticks = k.ticks; piece = k.piece; out = k.out }

with_rx : (s : EndState) (rx : Receiver) (held : Option Begun) (asked : Bool) → IsSoundEnd s
    → IsSoundReceiver rx → IsSoundEnd (record s { rx = rx; held = held; asked = asked })
with_rx s rx held asked k sound =
    record { talk = k.talk; tx = k.tx; rx = sound; ticks = k.ticks; piece = k.piece; out = k.out }

heard_sound : (s : EndState) → IsSoundEnd s → IsSoundEnd (heard s)
heard_sound s k =
    record {
      talk = k.talk;
      tx = k.tx;
      rx = k.rx;
      ticks = omega arith;
      piece = k.piece;
      out = k.out;
    }

anew_sound : (s : EndState) → IsSoundEnd s → IsSoundEnd (anew s)
anew_sound s k =
    record {
      talk = k.talk;
      tx = record {
        frames = All-nil IsFrame;
        fitting = All-nil FitsFrame;
        given = omega arith;
      };
      rx = record { expected = omega arith; in_order = tt };
      ticks = omega arith;
      piece = k.piece;
      out = k.out;
    }

next_known : (session : Session) → IsKnown session → HasNext session
    → IsKnown (record { 0 = session.0 + 1 })
next_known session h n = let high = h.1 in (omega arith, omega arith)

down_sound : (talk : TalkState) → IsSoundTalk talk → HasNext talk.mine
    → IsSoundTalk (after_down talk)
down_sound talk k n =
    record {
      numbered = next_numbered talk.mine k.numbered n;
      mine = next_known talk.mine k.mine n;
      peer = λ y e. cc;
    }

up_sound : (talk : TalkState) (peer : Session) (confirmed : Bool) → IsSoundTalk talk
    → IsKnown peer → IsSoundTalk (up_with talk peer confirmed)
up_sound talk peer confirmed k known =
    record {
      numbered = k.numbered;
      mine = k.mine;
      peer = λ y e. let same : peer ≡ y = grind arith in subst IsKnown same known;
    }

gone_down_sound : (s : EndState) → IsSoundEnd s → HasNext s.talk.mine → IsSoundEnd (gone_down s)
gone_down_sound s k n =
    anew_sound (record s { talk = after_down s.talk })
    (with_talk s (after_down s.talk) k (down_sound s.talk k.talk n))

-- ---- the receiver

taken_sound : (n : ℕ) (kept : List SentFrame) (held : Option Begun) (made : Joined)
    → n ≤ number_limit → KeepsInOrder n kept → IsSoundReceiver (take_kept n kept held made).rx
unfolding take_kept
taken_sound n [] held More h r = record { expected = h; in_order = r }
taken_sound n (s ∷ kept) held More h r =
    let rises = rises_from_expected n (s ∷ kept) r in
    elim (eqb_tells s.number n) [
      | inl same ↦
          let found = front_kept 0 n (s ∷ kept) s rises refl (omega arith) same.1 in
          let below = found.1 in
          let above : kept ≡ kept_above n (s ∷ kept) = found.0 in
          let order : KeepsInOrder (n + 1) kept =
          subst (KeepsInOrder (n + 1)) (sym above) (rises_taken n (s ∷ kept) r) in
          rw same.0 (taken_sound (n + 1) kept (held_after held s.frame) (joiner_answer held s.frame)
          (omega arith) order)
      | inr other ↦ rw other.0 (record { expected = h; in_order = r })
    ]
taken_sound n _ held _ h r = record { expected = h; in_order = r }

early_sound : (rx : Receiver) (sent : SentFrame) → IsSoundReceiver rx → rx.expected < sent.number
    → sent.number < number_limit
    → IsSoundReceiver (record rx { kept = kept_early rx.expected rx.kept sent })
early_sound rx sent k early numbered =
    let by : (b : Bool) → ltb sent.number (rx.expected + early_limit) ≡ b
    → KeepsInOrder rx.expected (if b then kept_with sent rx.kept else rx.kept) =
    λ b. elim b as (λ v. ltb sent.number (rx.expected + early_limit) ≡ v
    → KeepsInOrder rx.expected (if v then kept_with sent rx.kept else rx.kept)) [
      | true ↦ λ e.
          rises_early rx.expected rx.kept k.in_order sent (ltb-true _ _ e) early numbered
      | false ↦ λ e. k.in_order
    ] in
    record {
      expected = k.expected;
      in_order = by (ltb sent.number (rx.expected + early_limit)) refl;
    }

-- ---- the data rules

module _ (s : EndState) (peer : Session) (k : IsSoundEnd s) (known : IsKnown peer) where
  acked_sound : (next : ℕ) → IsSoundEnd (acked s peer next)
  acked_sound next =
      let tx : Sender = after_ack s.tx next in
      let sound = after_ack_sound s.tx next k.tx in
      put_pieces_sound (record s { tx = tx }) peer (coming_in s.tx tx) (with_tx s tx k sound) known
      (sent_from tx sound (sent_end s.tx))

  ask_sound : IsSoundEnd (ask s peer)
  ask_sound =
      let counts = counts_missing s.rx.expected s.rx.kept k.rx.in_order in
      let expected = k.rx.expected in
      let missing : Part = Nack s.rx.expected (missing_count s.rx.expected s.rx.kept) in
      let sent = put_known s peer missing k known (λ e. cc) (counts.at_least, counts.at_most)
      (omega arith) in
      let asking : EndState = record (put s peer missing) { asked = true } in
      elim s.asked as (λ b. IsSoundEnd (if b then s else asking)) [
        | true ↦ k
        | false ↦ with_rx (put s peer missing) s.rx s.held true sent k.rx
      ]

nacked_sound : (s : EndState) (peer : Session) (next count : ℕ) → IsSoundEnd s → IsKnown peer
    → IsSoundEnd (nacked s peer next count)
nacked_sound s peer next count k known =
    let sound = acked_sound s peer k known next in
    put_pieces_sound (acked s peer next) peer (sent_again (acked s peer next).tx next count) sound
    known (sent_again_sent (acked s peer next).tx sound.tx next count)

finished_sound : (s : EndState) (peer : Session) (made : Joined) → IsSoundEnd s → IsKnown peer
    → HasNext s.talk.mine → IsSoundEnd (finished s peer made).state
finished_sound s peer More k known n = put_ack_sound s peer k known
finished_sound s peer (Whole m) k known n = put_ack_sound s peer k known
finished_sound s peer Broken k known n = gone_down_sound s k n

took_sound : (s : EndState) (peer : Session) (frame : Frame) → IsSoundEnd s → IsKnown peer
    → HasNext s.talk.mine → s.rx.expected < number_limit
    → IsSoundEnd
    (finished (with_taken s (take_frames s frame)) peer (take_frames s frame).made).state
took_sound s peer frame k known n below =
    let taken = take_frames s frame in
    let rx = taken_sound (s.rx.expected + 1) (kept_above s.rx.expected s.rx.kept)
    (held_after s.held frame) (joiner_answer s.held frame) (omega arith)
    (rises_taken s.rx.expected s.rx.kept k.rx.in_order) in
    finished_sound (with_taken s taken) peer taken.made
    (with_rx s taken.rx taken.held false k rx) known n

framed_sound : (s : EndState) (peer : Session) (sent : SentFrame) → IsSoundEnd s → IsKnown peer
    → HasNext s.talk.mine → sent.number < number_limit → IsSoundEnd (framed_in s peer sent).state
framed_sound s peer sent k known n numbered =
    elim (eqb_tells sent.number s.rx.expected) [
      | inl same ↦
          let at = same.1 in
          rw same.0 (took_sound s peer sent.frame k known n (omega arith))
      | inr other ↦ elim (cases_lt sent.number s.rx.expected) [
        | inl lower ↦ rw (other.0, lt-ltb _ _ lower) (put_ack_sound s peer k known)
        | inr from ↦
            let apart = other.1 in
            let rx = early_sound s.rx sent k.rx (omega arith) numbered in
            rw (other.0, le-ltb _ _ from) (ask_sound (with_early s sent) peer
            (with_rx s (with_early s sent).rx s.held s.asked k rx) known)
      ]
    ]

-- a part within its bounds, whose numbers fit their fields
data_sound : (s : EndState) (peer : Session) (part : Part) → IsSoundEnd s → IsKnown peer
    → HasNext s.talk.mine → IsPart part → IsSoundEnd (data_in s peer part).state
unfolding data_in
data_sound s peer (Conn kind) k known n within = k
data_sound s peer (Ack next) k known n within = acked_sound s peer k known next
data_sound s peer (Nack next count) k known n within = nacked_sound s peer next count k known
data_sound s peer (Piece next seq frame) k known n within =
    framed_sound (acked s peer next) peer (record { number = seq; frame = frame })
    (acked_sound s peer k known next) known n within.0

-- ---- a packet

replied_sound : (s : EndState) (src : Session) (kind : ConnKind) → IsSoundEnd s → IsKnown src
    → kind ≢ kinds.Connect → IsSoundEnd (put s src (Conn kind))
replied_sound s src kind k known other =
    put_known s src (Conn kind) k known (λ e. other (grind arith)) tt tt

pub input_sound : (s : EndState) (p : Packet) → IsSoundEnd s → IsPacket p → HasNext s.talk.mine
    → IsSoundEnd (input_of s p).state
unfolding input_of
input_sound s p k is n =
    let known : IsKnown p.src = (is.bounds.sender_known, is.sender_fits) in
    let up : (confirmed : Bool) → IsSoundEnd (record s { talk = up_with s.talk p.src confirmed }) =
    λ c. with_talk s (up_with s.talk p.src c) k (up_sound s.talk p.src c k.talk known) in
    let down = gone_down_sound s k n in
    let same = heard_sound s k in
    by_rows (λ outcome. IsSoundEnd (reacts s p.src p.part outcome).state) s.talk p.src p.dst
    (kind_in p.part) (record {
      connecting_connect = λ e q. replied_sound s p.src kinds.ConnectAck k known (λ x. cc);
      connecting_connect_ack = λ e q d.
          replied_sound (anew (record s { talk = up_with s.talk p.src false })) p.src kinds.Ack
          (anew_sound _ (up false)) known (λ x. cc);
      connecting_ack = λ e q d. anew_sound _ (up true);
      connecting_other = λ e a b c. k;
      up_lower = λ peer c e l. k;
      up_greater = λ peer c e l. down;
      up_connect = λ c e q. replied_sound (heard s) p.src kinds.Ack same known (λ x. cc);
      up_not_mine = λ c e q d. k;
      up_reset = λ c e d q. down;
      up_connect_ack = λ c e d q. replied_sound (heard s) p.src kinds.Ack same known (λ x. cc);
      up_ack = λ c e d q.
          data_sound (heard (record s { talk = up_with s.talk p.src true })) p.src p.part
          (heard_sound _ (up true)) known n is.bounds.part;
      up_data = λ c e d q.
          data_sound (heard (record s { talk = up_with s.talk p.src true })) p.src p.part
          (heard_sound _ (up true)) known n is.bounds.part;
    })

-- ---- a tick

connect_sound : (s : EndState) → IsSoundEnd s
    → IsSoundEnd (put s (record { 0 = 0 }) (Conn kinds.Connect))
connect_sound s k =
    put_sound s (record { 0 = 0 }) (Conn kinds.Connect) k (record {
      bounds = record {
        sender_known = k.talk.mine.0;
        receiver_unknown_in_connect = (λ e. refl, λ e. refl);
        part = tt;
      };
      sender_fits = k.talk.mine.1;
      receiver_fits = omega arith;
      part_fits = tt;
    })

again_sound : (s : EndState) (peer : Session) (sent : List SentFrame) → IsSoundEnd s → IsKnown peer
    → All IsSent sent → IsSoundEnd (sent_or_ack s peer sent)
again_sound s peer [] k known all = replied_sound s peer kinds.Ack k known (λ e. cc)
again_sound s peer (f ∷ fs) k known all = put_pieces_sound s peer (f ∷ fs) k known all

ticked_sound : (s : EndState) → IsSoundEnd s → s.ticks + 1 < lost_at
    → IsSoundEnd (record s { ticks = s.ticks + 1; asked = false })
ticked_sound s k h =
    record { talk = k.talk; tx = k.tx; rx = k.rx; ticks = h; piece = k.piece; out = k.out }

tick_up_sound : (s : EndState) (peer : Session) → IsSoundEnd s → IsKnown peer → HasNext s.talk.mine
    → IsSoundEnd (tick_up s peer).state
tick_up_sound s peer k known n =
    elim (cases_lt (s.ticks + 1) lost_at) [
      | inl before ↦
          rw (lt-ltb _ _ before)
          (again_sound (record s { ticks = s.ticks + 1; asked = false }) peer (unacknowledged s.tx)
          (ticked_sound s k before) known (sent_unacknowledged s.tx k.tx))
      | inr last ↦
          rw (le-ltb _ _ last) (gone_down_sound (put s peer (Conn kinds.Reset))
          (replied_sound s peer kinds.Reset k known (λ e. cc)) n)
    ]

tick_in_sound : (s : EndState) (standing : Standing) → s.talk.standing ≡ standing → IsSoundEnd s
    → HasNext s.talk.mine → IsSoundEnd (tick_in s standing).state
tick_in_sound s Connecting e k n = connect_sound s k
tick_in_sound s (Up peer confirmed) e k n =
    tick_up_sound s peer k (k.talk.peer peer (ap standing_peer e)) n

pub tick_sound : (s : EndState) → IsSoundEnd s → HasNext s.talk.mine → IsSoundEnd (tick_of s).state
unfolding tick_of
tick_sound s k n = tick_in_sound s s.talk.standing refl k n

-- ---- an offered message

followers_fit : (payloads : List (List ℕ)) → All FitsFrame (followers payloads)
unfolding followers
followers_fit [] = All-nil FitsFrame
followers_fit (payload ∷ rest) = All-cons FitsFrame _ _ tt (followers_fit rest)

framed_fit : (m : Message) (payloads : List (List ℕ)) → m.from < 2 ^ 32 → m.to < 2 ^ 32
    → All FitsFrame (framed m payloads)
unfolding framed
framed_fit m [] f t = All-nil FitsFrame
framed_fit m (payload ∷ rest) f t = All-cons FitsFrame _ _ (f, t) (followers_fit rest)

pieces_fitting : (m : Message) (p : ℕ) → FitsMessage m → All FitsFrame (pieces_of m p)
unfolding pieces_of
pieces_fitting m p fits = framed_fit m (cut (length m.body) p m.body) fits.0 fits.1

offered_sound : (s : EndState) (peer : Session) (m : Message) → IsSoundEnd s → IsKnown peer
    → IsMessage m → FitsMessage m → 1024 ≤ left_of s.tx → IsSoundEnd (offered s peer m)
offered_sound s peer m k known is fits left =
    let piece = k.piece.0 in
    let given = k.tx.given in
    let few = few_pieces m s.piece piece is in
    let frames = pieces_of m s.piece in
    let tx : Sender = with_frames s.tx frames in
    let sound : IsSoundSender tx = record {
      frames = All-append IsFrame s.tx.frames frames k.tx.frames
          (pieces_fit m s.piece (omega arith) k.piece.1 is);
      fitting = All-append FitsFrame s.tx.frames frames k.tx.fitting
          (pieces_fitting m s.piece fits);
      given = omega (arith, length-append s.tx.frames frames);
    } in
    put_pieces_sound (record s { tx = tx }) peer (coming_in s.tx tx) (with_tx s tx k sound) known
    (sent_from tx sound (sent_end s.tx))

offer_in_sound : (s : EndState) (standing : Standing) (m : Message) → s.talk.standing ≡ standing
    → IsSoundEnd s → IsMessage m → FitsMessage m → 1024 ≤ left_of s.tx
    → IsSoundEnd (offer_in s standing m)
offer_in_sound s Connecting m e k is fits left = k
offer_in_sound s (Up peer confirmed) m e k is fits left =
    offered_sound s peer m k (k.talk.peer peer (ap standing_peer e)) is fits left

pub offer_sound : (s : EndState) (m : Message) → IsSoundEnd s → IsMessage m → FitsMessage m
    → 1024 ≤ left_of s.tx → IsSoundEnd (offer_of s m)
unfolding offer_of
offer_sound s m k is fits left = offer_in_sound s s.talk.standing m refl k is fits left

-- ---- what goes out

pub after_out_sound : (s new : EndState) → IsSoundEnd s → new ≡ after_out s → IsSoundEnd new
after_out_sound s new k e = rw e (with_out s (drop 1 s.out) k (All-drop IsPacket 1 s.out k.out))

-- ---- by the answer of an event

pub sound_after : {A : Type 0} (r : Reaction A) (new : EndState) (answer : A)
    → gives new answer ≡ r → IsSoundEnd r.state → IsSoundEnd new
sound_after r new answer e k = subst IsSoundEnd (sym (ap (λ q. q.state) e)) k
