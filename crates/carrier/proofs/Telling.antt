-- What is handed up of a packet or a tick says what became of the side.
use Rattle.std.proofs.Common.{◌≡◌, ◌⊎◌, ◌+◌, ◌<◌, ◌≤◌, ℕ, Some, List, length, refl, ap, subst, ◌∙◌}
use Rattle.std.proofs.Common.{arith, inl, inr, length-append}
use Rattle.linx_base.specs.declared.identity.Session.{Session}
use Rattle.linx_base.specs.declared.frame.ConnKind.TheVariants as kinds
use Rattle.linx_base.specs.declared.frame.Message.{Message}
use Rattle.linx_base.specs.Frames.{IsMessage}
use Rattle.linx_base.specs.Numbers.{boot_of, first_session}
use Rattle.ethcm_headers.specs.declared.packets.Packet.{Packet}
use Rattle.ethcm_headers.specs.declared.packets.Part.TheVariants.{Conn}
use Rattle.ethcm_window.specs.Sending.{Sender}
use Rattle.fragmenter.specs.declared.joiner.Joined.TheVariants.{Broken}
use Rattle.fragmenter.specs.Pieces.{pieces_of}
use Rattle.fragmenter.proofs.Cuts.{few_pieces}
use Rattle.ethcm_end.specs.declared.answers.Input.{Input}
use Rattle.ethcm_end.specs.declared.answers.Input.TheVariants as inputs
use Rattle.ethcm_end.specs.declared.answers.Ticked.{Ticked}
use Rattle.ethcm_end.specs.declared.answers.Ticked.TheVariants as ticks
use Rattle.ethcm_end.specs.States.{EndState, peer_of}
use Rattle.ethcm_end.specs.Rules.{input_of, restart_of, tick_of}
use Rattle.ethcm_end.specs.Answers.{IsGreater, IsReset, TakesTo}
use Rattle.ethcm_end.specs.Sessions.{GoesDown}
use Rattle.ethcm_end.proofs.Rising.{sessions_rise}
use Rattle.carrier.specs.Records.{HalfState, entries, mine_of, source}
use Rattle.carrier.specs.Events.{drained, handed_as, recorded, recorded_tick, ticked_as, with_next}
use Rattle.carrier.specs.Events.{with_offered}
use Rattle.carrier.specs.Keeping.{IsFlying, IsSaid, KeepsHalf}
use Rattle.carrier.specs.Laws.{BeginsBoot, DownForGreater, GoesDownFrom, HandsUp, Offers}
use Rattle.carrier.specs.Laws.{TellsRightly, handed_of}
use Rattle.carrier.proofs.Ends.{Beat, Came, Offered, beat, came}
use Rattle.carrier.proofs.Flying.{piece_heard}
use Rattle.carrier.proofs.Joining.{takes_frames}
use Rattle.carrier.proofs.Lookups.{session_upto, source_messages}

-- ---- a packet

tells_down : (a : HalfState) (new : EndState) → GoesDown a.end new
    → GoesDownFrom a (with_next a (drained new)) a.end.talk.mine
tells_down a new down =
    record {
      same = refl;
      was_up = down.was_up;
      next = down.session;
      connecting = down.connecting;
      offered = refl;
      handed = refl;
      past = refl;
    }

module _ (piece : ℕ) (a b : HalfState) (p : Packet) (f : IsFlying piece b a p) (new : EndState)
  where
    hands_up : (m : Message) → Came a.end p new (inputs.Got m)
        → HandsUp a (recorded a (drained new) (inputs.Got m)) b m
    hands_up m came =
        let goes = came.goes in
        let taken = came.takes in
        let offered = piece_heard piece a b p taken.piece.next a.end.rx.expected taken.piece.frame f
        taken.piece.between taken.piece.piece in
        record {
          stays = record { session = goes.0.session; peer = goes.0.peer };
          paired = (p.src, goes.1.0, offered.pair);
          heard = goes.1.1;
          offered = refl;
          handed = refl;
          past = refl;
        }

    pub tells_came : (answer : Input) → Came a.end p new answer
        → TellsRightly a (recorded a (drained new) answer) b
        (handed_as a.end.talk.mine p.src answer)
    tells_came inputs.Nothing came = (
      record { session = came.goes.session; peer = came.goes.peer },
      record { offered = refl; handed = refl; past = refl },
    )
    tells_came inputs.WentUp came =
        let goes = came.goes in (
          record {
            same = refl;
            stays = goes.session;
            was_connecting = goes.was_connecting;
            up = goes.peer;
            heard = goes.anew.ticks;
            records = record { offered = refl; handed = refl; past = refl };
          },
          f.from,
        )
    tells_came inputs.WentDown came = tells_down a new came.goes
    tells_came (inputs.Got m) came = hands_up m came

-- ---- a packet takes a side down for a greater session alone

module _ (piece : ℕ) (a b : HalfState) (there back : List Packet) (near : KeepsHalf piece a b there)
    (far : KeepsHalf piece b a back) (sized : 1 ≤ piece) (p : Packet)
    (f : IsFlying piece b a p) where
  -- no taken frame is broken
  unbroken : TakesTo a.end p Broken → ⊥
  unbroken t =
      let offered = piece_heard piece a b p t.next a.end.rx.expected t.frame f t.between t.piece in
      (takes_frames piece (source (entries b) (mine_of a) (peer_of a.end)) a.handed a.end.rx
      a.end.held t.frame sized (source_messages (entries b) (mine_of a) (peer_of a.end)
      (far.book.messages, far.book.past_messages)) near.receives offered.frame_is).unbroken t.makes

  greater : IsGreater a.end p ⊎ (IsReset a.end p ⊎ TakesTo a.end p Broken)
      → (peer : Session) × (peer_of a.end ≡ Some peer) × (peer.0 < mine_of b)
  greater (inl h) =
      let upto = session_upto p.src.0 b far.book.falls f.from in
      let less = h.greater in
      (h.peer, h.up, omega arith)
  greater (inr (inl h)) =
      let said : IsSaid piece b p.src.0 p.dst (Conn kinds.Reset) =
      subst (IsSaid piece b p.src.0 p.dst) h.reset f.says in
      (p.src, h.between.from, said.1)
  greater (inr (inr h)) = absurd (unbroken h)

  down_for : (new : EndState) (answer : Input) → Came a.end p new answer
      → DownForGreater a b (handed_as a.end.talk.mine p.src answer)
  down_for new inputs.Nothing came = tt
  down_for new inputs.WentUp came = tt
  down_for new inputs.WentDown came = greater (came.downs refl)
  down_for new (inputs.Got m) came = tt

  pub down_for_greater :
      DownForGreater a b (handed_as a.end.talk.mine p.src (input_of a.end p).answer)
  down_for_greater = down_for (input_of a.end p).state (input_of a.end p).answer (came a.end p)

-- ---- a tick, an offer, a restart

tells_beat : (a b : HalfState) (new : EndState) (answer : Ticked) → Beat a.end new answer
    → TellsRightly a (recorded_tick a (drained new) answer) b
    (handed_of (ticked_as a.end.talk.mine answer))
tells_beat a b new ticks.Stays beat = (
  record { session = beat.goes.session; peer = beat.goes.peer },
  record { offered = refl; handed = refl; past = refl },
)
tells_beat a b new ticks.WentDown beat = tells_down a new beat.goes

pub tells_tick : (a b : HalfState)
    → TellsRightly a
    (recorded_tick a (drained (tick_of a.end).state) (tick_of a.end).answer) b
    (handed_of (ticked_as a.end.talk.mine (tick_of a.end).answer))
tells_tick a b = tells_beat a b (tick_of a.end).state (tick_of a.end).answer (beat a.end)

pub tells_offer : (a : HalfState) (m : Message) (new : EndState) → Offered a.end m new
    → 64 ≤ a.end.piece → IsMessage m → Offers a (with_offered a (drained new) m) m
tells_offer a m new offered sized is =
    let few = few_pieces m a.end.piece sized is in
    let base : new.tx.base ≡ a.end.tx.base = ap (λ (t : Sender). t.base) offered.window in
    let count : length new.tx.frames ≡ length a.end.tx.frames + length (pieces_of m a.end.piece) =
    ap (λ (t : Sender). length t.frames) offered.window
    ∙ length-append a.end.tx.frames (pieces_of m a.end.piece) in
    record {
      stays = record { session = offered.goes.session; peer = offered.goes.peer };
      offered = refl;
      handed = refl;
      past = refl;
      numbers = omega arith;
    }

pub tells_restart : (a : HalfState) (boot : ℕ) → boot_of a.end.talk.mine < boot
    → BeginsBoot a (with_next a (restart_of a.end boot)) (first_session boot)
tells_restart a boot h =
    record {
      begins = refl;
      greater = sessions_rise.restart a.end boot h;
      connecting = refl;
      offered = refl;
      handed = refl;
      past = refl;
    }
