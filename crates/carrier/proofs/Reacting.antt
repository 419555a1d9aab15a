-- A packet, a tick, an offer and a restart: the side turns, and what it sends flies.
use Rattle.std.proofs.Common.{◌≡◌, ◌⊎◌, ◌+◌, ◌<◌, ◌≤◌, ℕ, eqb, true, false, Some, None, List, []}
use Rattle.std.proofs.Common.{◌∷◌, ◌++◌, All, refl, sym, ap, subst, ◌∙◌, arith, inl, inr, ne_eqb}
use Rattle.std.proofs.Common.{append-nil}
use Rattle.std.specs.Option.{ForSome}
use Rattle.std.proofs.lemmas.List.Elements.{All-append, All-cons, All-nil, All-same}
use Rattle.std.proofs.lemmas.Option.{same_Some}
use Rattle.linx_base.specs.declared.identity.Session.{Session}
use Rattle.linx_base.specs.declared.frame.Message.{Message}
use Rattle.linx_base.specs.Frames.{IsMessage}
use Rattle.linx_base.specs.Numbers.{boot_of}
use Rattle.ethcm_headers.specs.declared.packets.Packet.{Packet}
use Rattle.ethcm_session.specs.declared.standing.TalkState.{TalkState}
use Rattle.ethcm_session.specs.Table.{is_confirmed_in, standing_peer}
use Rattle.ethcm_window.specs.Sending.{Sender, sent_end, with_frames}
use Rattle.ethcm_window.specs.Receiving.{kept_early}
use Rattle.fragmenter.specs.declared.joiner.Joined.{Joined}
use Rattle.fragmenter.specs.declared.joiner.Joined.TheVariants.{More, Whole}
use Rattle.fragmenter.specs.Pieces.{pieces_of}
use Rattle.fragmenter.specs.Streams.{frames_of}
use Rattle.ethcm_end.specs.declared.answers.Input.{Input}
use Rattle.ethcm_end.specs.declared.answers.Input.TheVariants as inputs
use Rattle.ethcm_end.specs.declared.answers.Ticked.{Ticked}
use Rattle.ethcm_end.specs.declared.answers.Ticked.TheVariants as ticks
use Rattle.ethcm_end.specs.States.{EndState, peer_of}
use Rattle.ethcm_end.specs.Rules.{restart_of, take_frames}
use Rattle.ethcm_end.specs.Sessions.{Confirms, GoesDown, GoesOn}
use Rattle.ethcm_end.specs.Windows.{Acknowledges, IsSent, SendsPackets, peer_or_unknown}
use Rattle.ethcm_end.specs.Taking.{KeepsEarly, ReceivesNothing}
use Rattle.ethcm_end.proofs.Naming.{acked_rest, offered_rest}
use Rattle.ethcm_end.proofs.Rising.{sessions_rise}
use Rattle.carrier.specs.Records.{HalfState, entries, is_pair, mine_of, offered_at, source}
use Rattle.carrier.specs.Events.{drained, recorded, recorded_tick, with_next, with_offered}
use Rattle.carrier.specs.Keeping.{HoldsRest, IsFlying, KeepsHalf, OfferedMessages, Receives}
use Rattle.carrier.specs.Keeping.{WasSent}
use Rattle.carrier.proofs.Ends.{Beat, Came, IsBelow, Offered, Takes, acked_base, acked_end}
use Rattle.carrier.proofs.Ends.{offered_end}
use Rattle.carrier.proofs.Flying.{acks_pair, acks_said, all_fly, pair_said, partner_upto}
use Rattle.carrier.proofs.Flying.{piece_heard}
use Rattle.carrier.proofs.Fronts.{frames-push, front_push, front_refl}
use Rattle.carrier.proofs.Growing.{IsLater}
use Rattle.carrier.proofs.Joining.{made_whole, receives_early, takes_frames}
use Rattle.carrier.proofs.Lookups.{own_offered, session_upto, source_messages}
use Rattle.carrier.proofs.Stepping.{Turns, confirmed_on, early_below, going, keeps_put, next}
use Rattle.carrier.proofs.Stepping.{taken_sent, turns_next, turns_on, turns_up}

-- ---- the parts of a session that goes on, by a packet

-- the window and its base
record WindowAs (piece : ℕ) (a : HalfState) (new : EndState) (b : HalfState) : Type 0 where
  pub sends : HoldsRest (frames_of piece a.offered) new.tx
  pub sent : sent_end a.end.tx ≤ sent_end new.tx
  pub base_taken :
      ForSome (peer_of a.end) (λ y. y.0 ≡ mine_of b → new.tx.base ≤ b.end.rx.expected)
  pub base_none : ForSome (peer_of a.end)
      (λ y. is_pair (mine_of a) y.0 (entries b) ≡ false → new.tx.base ≡ 0)

-- what was received
record ReceivesAs (piece : ℕ) (a : HalfState) (new : EndState) (b : HalfState)
    (handed : List Message) : Type 0 where
  pub receives :
      Receives piece (source (entries b) (mine_of a) (peer_of a.end)) handed new.rx new.held
  pub was_sent :
      ForSome (peer_of a.end) (λ y. y.0 ≡ mine_of b → WasSent new.rx b.end.tx)

module _ (piece : ℕ) (a b : HalfState) (there : List Packet) (k : KeepsHalf piece a b there)
    (new : EndState) where
  same_window : new.tx ≡ a.end.tx → WindowAs piece a new b
  same_window same =
      let tx : Sender = new.tx in
      record {
        sends = subst (HoldsRest (frames_of piece a.offered)) (sym same) k.sends;
        sent = subst (λ t. sent_end a.end.tx ≤ sent_end t) (sym same) (omega arith);
        base_taken = λ y e n.
            subst (λ t. t.base ≤ b.end.rx.expected) (sym same) (k.bound.base_taken y e n);
        base_none = λ y e n. subst (λ t. t.base ≡ 0) (sym same) (k.bound.base_none y e n);
      }

  same_received : ReceivesNothing a.end new → ReceivesAs piece a new b a.handed
  same_received r =
      record {
        receives = subst (λ rx. Receives piece
            (source (entries b) (mine_of a) (peer_of a.end)) a.handed rx new.held) (sym r.receives)
            (subst (λ h. Receives piece (source (entries b) (mine_of a) (peer_of a.end)) a.handed
            a.end.rx h) (sym r.held) k.receives);
        was_sent = λ y e n.
            subst (λ rx. WasSent rx b.end.tx) (sym r.receives) (k.bound.was_sent y e n);
      }

  -- the window and what was received stand so, and the session goes on
  goes_as : (handed : List Message) → GoesOn a.end new → WindowAs piece a new b
      → ReceivesAs piece a new b handed
      → (is_confirmed_in new.talk.standing ≡ true → (new.talk ≡ a.end.talk)
      ⊎ ((y : Session) → peer_of a.end ≡ Some y
      → is_pair (mine_of a) y.0 (entries b) ≡ true))
      → new.tx.window ≡ a.end.tx.window → new.piece ≡ a.end.piece
      → Turns piece a (going a new a.offered handed) b there
  goes_as handed goes w r confirms window cut =
      turns_on piece a b there k new a.offered handed (record {
        goes = goes;
        sizes = record { window = window; piece = cut };
        front = front_refl a.offered;
        messages = k.book.messages;
        unpaired = k.book.unpaired;
        sends = w.sends;
        receives = r.receives;
        bound = record {
          base_taken = w.base_taken;
          base_none = w.base_none;
          confirmed = confirmed_on piece a b there k new goes confirms;
          was_sent = r.was_sent;
        };
        sent = w.sent;
      })

  module _ (p : Packet) (f : IsFlying piece b a p) where
    acked_window : Acknowledges a.end p new → WindowAs piece a new b
    acked_window ack =
        let n : ℕ = ack.next in
        let said = acks_said piece b p.src.0 p.dst p.part ack.next ack.names f.says in
        let pair : is_pair (mine_of a) p.src.0 (entries b) ≡ true =
        subst (λ d. is_pair d p.src.0 (entries b) ≡ true) ack.between.to
        (acks_pair piece b p.src.0 p.dst p.part ack.next ack.names f.says) in
        let base : (new.tx.base ≡ a.end.tx.base) ⊎ (new.tx.base ≡ ack.next) =
        subst (λ t. (t.base ≡ a.end.tx.base) ⊎ (t.base ≡ ack.next)) (sym ack.window)
        (acked_base a.end.tx ack.next) in
        record {
          sends = subst (HoldsRest (frames_of piece a.offered)) (sym ack.window)
              (acked_rest (frames_of piece a.offered) a.end.tx k.sends ack.next);
          sent = subst (λ t. sent_end a.end.tx ≤ sent_end t) (sym ack.window)
              (acked_end a.end.tx ack.next);
          base_taken = λ y e m.
              let peers : p.src ≡ y = same_Some p.src y (sym ack.between.from ∙ e) in
              let number : p.src.0 ≡ y.0 = ap (λ (s : Session). s.0) peers in
              let before = k.bound.base_taken y e m in
              let now = said (omega arith) in
              elim base [ inl same ↦ omega arith | inr moved ↦ omega arith ];
          base_none = λ y e none.
              let peers : p.src ≡ y = same_Some p.src y (sym ack.between.from ∙ e) in
              let number : p.src.0 ≡ y.0 = ap (λ (s : Session). s.0) peers in
              let paired : is_pair (mine_of a) y.0 (entries b) ≡ true =
              subst (λ n. is_pair (mine_of a) n (entries b) ≡ true) number pair in
              absurd (grind arith);
        }

    window_as : (new.tx ≡ a.end.tx) ⊎ Acknowledges a.end p new → WindowAs piece a new b
    window_as (inl same) = same_window same
    window_as (inr ack) = acked_window ack

    -- the peer confirms
    confirms_as : (is_confirmed_in new.talk.standing ≡ true
        → (new.talk ≡ a.end.talk) ⊎ Confirms a.end p new) → peer_of new ≡ peer_of a.end
        → is_confirmed_in new.talk.standing ≡ true → (new.talk ≡ a.end.talk)
        ⊎ ((y : Session) → peer_of a.end ≡ Some y
        → is_pair (mine_of a) y.0 (entries b) ≡ true)
    confirms_as by peer = λ c.
        elim (by c) [
          | inl same ↦ inl same
          | inr now ↦ inr (λ y e.
              let peers : p.src ≡ y = same_Some p.src y (sym now.from ∙ peer ∙ e) in
              let number : p.src.0 ≡ y.0 = ap (λ (s : Session). s.0) peers in
              subst (λ n. is_pair (mine_of a) n (entries b) ≡ true) number
              (subst (λ d. is_pair d p.src.0 (entries b) ≡ true) now.to
              (pair_said piece b p.src.0 p.dst p.part now.part f.says)))
        ]

    early_received : KeepsEarly a.end p new → ReceivesAs piece a new b a.handed
    early_received early =
        let offered = piece_heard piece a b p early.next early.n early.frame f early.between
        early.piece in
        record {
          receives = subst (λ rx. Receives piece
              (source (entries b) (mine_of a) (peer_of a.end)) a.handed rx new.held)
              (sym early.receives) (subst (λ h. Receives piece
              (source (entries b) (mine_of a) (peer_of a.end)) a.handed
              (record a.end.rx {
                kept = kept_early a.end.rx.expected a.end.rx.kept
                    (record { number = early.n; frame = early.frame });
              }) h) (sym early.held)
              (receives_early piece (source (entries b) (mine_of a) (peer_of a.end)) a.handed
              a.end.rx a.end.held (record { number = early.n; frame = early.frame }) k.receives
              offered.frame_is));
          was_sent = λ y e n.
              let peers : p.src ≡ y = same_Some p.src y (sym early.between.from ∙ e) in
              let number : p.src.0 ≡ y.0 = ap (λ (s : Session). s.0) peers in
              let here = offered.was_sent (omega arith) in
              let was = k.bound.was_sent y e n in
              let taken = was.taken in
              subst (λ rx. WasSent rx b.end.tx) (sym early.receives) (record {
                taken = taken;
                kept = early_below (sent_end b.end.tx) a.end.rx.expected a.end.rx.kept
                    (record { number = early.n; frame = early.frame }) was.kept here;
              });
        }

    module _ (far : KeepsHalf piece b a []) (sized : 1 ≤ piece) where
      taken_received : (made : Joined) → Takes a.end p new made
          → ReceivesAs piece a new b (a.handed ++ made_whole made)
      taken_received made t =
          let from : List Message = source (entries b) (mine_of a) (peer_of a.end) in
          let offered = piece_heard piece a b p t.piece.next a.end.rx.expected t.piece.frame f
          t.piece.between t.piece.piece in
          let took = takes_frames piece (source (entries b) (mine_of a) (peer_of a.end)) a.handed
          a.end.rx a.end.held t.piece.frame sized
          (source_messages (entries b) (mine_of a) (peer_of a.end)
          (far.book.messages, far.book.past_messages)) k.receives offered.frame_is in
          let whole : Receives piece (source (entries b) (mine_of a) (peer_of a.end))
          (a.handed ++ made_whole made) (take_frames a.end t.piece.frame).rx
          (take_frames a.end t.piece.frame).held =
          subst (λ m. Receives piece (source (entries b) (mine_of a) (peer_of a.end))
          (a.handed ++ made_whole m) (take_frames a.end t.piece.frame).rx
          (take_frames a.end t.piece.frame).held) t.makes took.receives in
          record {
            receives = subst (λ rx. Receives piece
                (source (entries b) (mine_of a) (peer_of a.end)) (a.handed ++ made_whole made) rx
                new.held) (sym t.piece.receives) (subst (λ h. Receives piece
                (source (entries b) (mine_of a) (peer_of a.end)) (a.handed ++ made_whole made)
                (take_frames a.end t.piece.frame).rx h) (sym t.piece.held) whole);
            was_sent = λ y e n.
                let peers : p.src ≡ y =
                same_Some p.src y (sym t.piece.between.from ∙ e) in
                let number : p.src.0 ≡ y.0 = ap (λ (s : Session). s.0) peers in
                let here = offered.was_sent (omega arith) in
                subst (λ rx. WasSent rx b.end.tx) (sym t.piece.receives)
                (taken_sent a.end.rx a.end.held t.piece.frame b.end.tx (k.bound.was_sent y e n)
                here);
          }

      -- nothing, an early frame, or frames that make no message whole
      nothing_received : ReceivesNothing a.end new
          ⊎ (KeepsEarly a.end p new ⊎ Takes a.end p new More)
          → ReceivesAs piece a new b a.handed
      nothing_received (inl none) = same_received none
      nothing_received (inr (inl early)) = early_received early
      nothing_received (inr (inr taken)) =
          subst (λ l. ReceivesAs piece a new b l) (append-nil a.handed)
          (taken_received More taken)

-- ---- what goes out

-- the session in which something is sent goes on, or is over
module _ (piece : ℕ) (a b c : HalfState) (there : List Packet) (turn : Turns piece a c b there)
    (near : KeepsHalf piece a b there) (far : KeepsHalf piece b a []) (tx : Sender) (new : EndState)
    (end : c.end ≡ drained new) (to : Session) (upto : to.0 ≤ mine_of b)
    (sends : SendsPackets tx a.end new to) where
  -- all that is out is what was sent
  out_is : new.out ≡ sends.packets
  out_is = sends.added ∙ ap (λ l. l ++ sends.packets) near.out

  none_before : (n : ℕ) → All (IsBelow n) a.end.out
  none_before n = All-same (IsBelow n) a.end.out [] near.out (All-nil (IsBelow n))

  out_flies : ((y : Session) → peer_of new ≡ Some y → mine_of c ≡ mine_of a)
      → HoldsRest (frames_of piece (offered_at (mine_of a) (entries c))) tx
      → (mine_of a ≡ mine_of c → All (IsBelow (sent_end c.end.tx)) new.out)
      → KeepsHalf piece c b (there ++ new.out)
  out_flies same holds below =
      keeps_put piece c b there new.out turn.keeps
      (all_fly piece a b c tx new (record {
        later = turn.later;
        end = end;
        same = same;
        holds = holds;
        falls = near.book.falls;
        held = far.book.past_held;
      }) to new.out upto
      (All-same (IsSent tx a.end new to) new.out sends.packets out_is sends.sent) below)

-- what was offered in a session that goes on, and in one that is over
offered_going : (a : HalfState) (new : EndState) (offered handed : List Message)
    → new.talk.mine.0 ≡ mine_of a
    → offered_at (mine_of a) (entries (going a new offered handed)) ≡ offered
offered_going a new offered handed number =
    subst (λ n. offered_at n (entries (going a new offered handed)) ≡ offered) number
    (own_offered (going a new offered handed))

offered_next : (a : HalfState) (new : EndState) → mine_of a < new.talk.mine.0
    → offered_at (mine_of a) (entries (next a new)) ≡ a.offered
offered_next a new h =
    let other : eqb new.talk.mine.0 (mine_of a) ≡ false =
    ne_eqb new.talk.mine.0 (mine_of a) (λ q. omega arith) in
    rw other (own_offered a)

-- side a became c, and sent these packets
pub record Steps (piece : ℕ) (a c b : HalfState) (there out : List Packet) : Type 0 where
  pub later : IsLater a c
  pub keeps : KeepsHalf piece c b (there ++ out)

module _ (piece : ℕ) (a b : HalfState) (there : List Packet) (near : KeepsHalf piece a b there)
    (far : KeepsHalf piece b a []) (sized : 1 ≤ piece) (new : EndState) (to : Session)
    (upto : to.0 ≤ mine_of b) where
  -- the session goes on or up
  steps_on : (tx : Sender) (offered handed : List Message)
      → Turns piece a (going a new offered handed) b there → new.talk.mine ≡ a.end.talk.mine
      → HoldsRest (frames_of piece offered) tx → SendsPackets tx a.end new to
      → (All (IsBelow (sent_end new.tx)) a.end.out → All (IsBelow (sent_end new.tx)) new.out)
      → Steps piece a (going a new offered handed) b there new.out
  steps_on tx offered handed turn mine holds sends below =
      let c : HalfState = going a new offered handed in
      let number : new.talk.mine.0 ≡ mine_of a = ap (λ (s : Session). s.0) mine in
      record {
        later = turn.later;
        keeps = out_flies piece a b c there turn near far tx new refl to upto sends
            (λ y e. number)
            (subst (λ l. HoldsRest (frames_of piece l) tx)
            (sym (offered_going a new offered handed number)) holds)
            (λ e. below (none_before piece a b c there turn near far tx new refl to upto sends
            (sent_end new.tx)));
      }

  -- the session is over
  steps_next : Turns piece a (next a new) b there → mine_of a < new.talk.mine.0
      → peer_of new ≡ None → SendsPackets a.end.tx a.end new to
      → Steps piece a (next a new) b there new.out
  steps_next turn greater none sends =
      let c : HalfState = next a new in
      record {
        later = turn.later;
        keeps = out_flies piece a b c there turn near far a.end.tx new refl to upto sends
            (λ y e. absurd (grind arith))
            (subst (λ l. HoldsRest (frames_of piece l) a.end.tx) (sym (offered_next a new greater))
            near.sends)
            (λ e. absurd (omega arith));
      }

-- ---- a packet

module _ (piece : ℕ) (a b : HalfState) (there : List Packet) (near : KeepsHalf piece a b there)
    (far : KeepsHalf piece b a []) (sized : 1 ≤ piece) where
  messages : OfferedMessages (entries b)
  messages = (far.book.messages, far.book.past_messages)

  -- the end went down
  goes_down : (new : EndState) (to : Session) → to.0 ≤ mine_of b → GoesDown a.end new
      → new.tx.window ≡ a.end.tx.window → new.piece ≡ a.end.piece → SendsPackets a.end.tx a.end new to
      → Steps piece a (next a new) b there new.out
  goes_down new to upto down window cut sends =
      let number : new.talk.mine.0 ≡ mine_of a + 1 = ap (λ (s : Session). s.0) down.session in
      let greater : mine_of a < new.talk.mine.0 = omega arith in
      steps_next piece a b there near far sized new to upto
      (turns_next piece a b there near sized messages new (record {
        greater = greater;
        connecting = down.connecting;
        anew = down.anew;
        sizes = record { window = window; piece = cut };
      })) greater down.connecting sends

  module _ (p : Packet) (f : IsFlying piece b a p) (new : EndState) where
    src_upto : p.src.0 ≤ mine_of b
    src_upto = session_upto p.src.0 b far.book.falls f.from

    goes_on : (handed : List Message) (answer : Input) → Came a.end p new answer
        → GoesOn a.end new → (new.tx ≡ a.end.tx) ⊎ Acknowledges a.end p new
        → ReceivesAs piece a new b handed
        → (All (IsBelow (sent_end new.tx)) a.end.out → All (IsBelow (sent_end new.tx)) new.out)
        → Steps piece a (going a new a.offered handed) b there new.out
    goes_on handed answer came goes window received below =
        steps_on piece a b there near far sized new p.src src_upto a.end.tx a.offered handed
        (goes_as piece a b there near new handed goes
        (window_as piece a b there near new p f window) received
        (confirms_as piece a b there near new p f came.confirms goes.peer) came.sizes.window
        came.sizes.piece) goes.session near.sends came.sends below

    goes_up : Came a.end p new inputs.WentUp
        → Steps piece a (going a new a.offered a.handed) b there new.out
    goes_up came =
        let goes = came.goes in
        let to : p.dst ≡ mine_of a = came.ups refl in
        steps_on piece a b there near far sized new p.src src_upto a.end.tx a.offered a.handed
        (turns_up piece a b there near new p.src (record {
          goes = goes;
          sizes = came.sizes;
          known = f.from;
          upto = f.latest to;
          pair = λ c.
              elim (came.confirms c) [
                | inl same ↦
                    let none : peer_of new ≡ None =
                    ap (λ (t : TalkState). standing_peer t.standing) same ∙ goes.was_connecting in
                    let some = goes.peer in
                    absurd (grind arith)
                | inr now ↦
                    subst (λ d. is_pair d p.src.0 (entries b) ≡ true) now.to
                    (pair_said piece b p.src.0 p.dst p.part now.part f.says)
              ];
        })) goes.session near.sends came.sends came.below

    pub steps_came : (answer : Input) → Came a.end p new answer
        → Steps piece a (recorded a (drained new) answer) b there new.out
    steps_came inputs.Nothing came =
        goes_on a.handed inputs.Nothing came came.goes came.window
        (nothing_received piece a b there near new p f far sized came.takes) came.below
    steps_came inputs.WentUp came = goes_up came
    steps_came inputs.WentDown came =
        goes_down new p.src src_upto came.goes came.sizes.window came.sizes.piece came.sends
    steps_came (inputs.Got m) came =
        goes_on (a.handed ++ m ∷ []) (inputs.Got m) came came.goes.0 came.window
        (taken_received piece a b there near new p f far sized (Whole m) came.takes) came.below

  -- ---- a tick

  pub steps_beat : (new : EndState) (answer : Ticked) → Beat a.end new answer
      → Steps piece a (recorded_tick a (drained new) answer) b there new.out
  steps_beat new ticks.Stays beat =
      let stays = beat.stays in
      let to = partner_upto a b (peer_of a.end) far.book.falls near.book.peer_held in
      let same : sent_end new.tx ≡ sent_end a.end.tx = ap sent_end stays.window in
      steps_on piece a b there near far sized new (peer_or_unknown (peer_of a.end)) to a.end.tx
      a.offered a.handed
      (goes_as piece a b there near new a.handed beat.goes
      (same_window piece a b there near new stays.window)
      (same_received piece a b there near new stays.receives) (λ c. inl (beat.confirms c))
      beat.sizes.window beat.sizes.piece) beat.goes.session near.sends beat.sends
      (subst (λ n. All (IsBelow n) a.end.out → All (IsBelow n) new.out) (sym same) stays.below)
  steps_beat new ticks.WentDown beat =
      let to = partner_upto a b (peer_of a.end) far.book.falls near.book.peer_held in
      goes_down new (peer_or_unknown (peer_of a.end)) to beat.goes beat.sizes.window
      beat.sizes.piece beat.sends

  -- ---- an offer

  pub steps_offered : (m : Message) (new : EndState) (y : Session) → peer_of a.end ≡ Some y
      → IsMessage m → Offered a.end m new
      → Steps piece a (with_offered a (drained new) m) b there new.out
  steps_offered m new y e is offered =
      let to = partner_upto a b (peer_of a.end) far.book.falls near.book.peer_held in
      let frames : frames_of piece (a.offered ++ m ∷ [])
      ≡ frames_of piece a.offered ++ pieces_of m a.end.piece =
      frames-push piece a.offered m
      ∙ ap (λ n. frames_of piece a.offered ++ pieces_of m n) (sym near.cut) in
      let holds : HoldsRest (frames_of piece (a.offered ++ m ∷ [])) new.tx =
      subst (HoldsRest (frames_of piece (a.offered ++ m ∷ []))) (sym offered.window)
      (subst (λ all. HoldsRest all (with_frames a.end.tx (pieces_of m a.end.piece))) (sym frames)
      (offered_rest (frames_of piece a.offered) a.end.tx near.sends (pieces_of m a.end.piece))) in
      let base : new.tx.base ≡ a.end.tx.base = ap (λ (t : Sender). t.base) offered.window in
      let received = same_received piece a b there near new offered.receives in
      steps_on piece a b there near far sized new (peer_or_unknown (peer_of a.end)) to new.tx
      (a.offered ++ m ∷ []) a.handed
      (turns_on piece a b there near new (a.offered ++ m ∷ []) a.handed (record {
        goes = offered.goes;
        sizes = offered.sizes;
        front = front_push a.offered (m ∷ []);
        messages = All-append IsMessage a.offered (m ∷ []) near.book.messages
            (All-cons IsMessage m [] is (All-nil IsMessage));
        unpaired = λ q. absurd (grind arith);
        sends = holds;
        receives = received.receives;
        bound = record {
          base_taken = λ z q n. let was = near.bound.base_taken z q n in omega arith;
          base_none = λ z q n. let was = near.bound.base_none z q n in omega arith;
          confirmed = confirmed_on piece a b there near new offered.goes
              (λ c. inl offered.talk);
          was_sent = received.was_sent;
        };
        sent = subst (λ t. sent_end a.end.tx ≤ sent_end t) (sym offered.window)
            (offered_end a.end.tx (pieces_of m a.end.piece));
      })) offered.goes.session holds offered.sends offered.below

  -- ---- a restart

  pub steps_restart : (boot : ℕ) → boot_of a.end.talk.mine < boot
      → Turns piece a (with_next a (restart_of a.end boot)) b there
  steps_restart boot h =
      turns_next piece a b there near sized messages (restart_of a.end boot) (record {
        greater = sessions_rise.restart a.end boot h;
        connecting = refl;
        anew = sessions_rise.restart_anew a.end boot;
        sizes = sessions_rise.restart_sizes a.end boot;
      })
