-- What holds of each rule's outcome holds of what a packet, or a tick, makes of an end.
use Rattle.std.proofs.Common.{◌≡◌, if◌then◌else◌, ℕ, ◌+◌, ◌<◌, Bool, true, false, None, Some, List}
use Rattle.std.proofs.Common.{[], ◌∷◌, refl, sym, ap, subst, ◌∙◌, arith, inl, inr, le-ltb, lt-ltb}
use Rattle.std.proofs.lemmas.Bool.{cases_lt}
use Rattle.std.proofs.lemmas.Bool.Decides.{eqb_tells}
use Rattle.linx_base.specs.declared.identity.Session.{Session}
use Rattle.linx_base.specs.declared.frame.ConnKind.TheVariants as kinds
use Rattle.linx_base.specs.declared.frame.Frame.{Frame}
use Rattle.linx_base.specs.declared.frame.SentFrame.{SentFrame}
use Rattle.ethcm_headers.specs.declared.packets.Packet.{Packet}
use Rattle.ethcm_headers.specs.declared.packets.Part.{Part}
use Rattle.ethcm_headers.specs.declared.packets.Part.TheVariants.{Conn, Ack, Nack, Piece}
use Rattle.ethcm_session.specs.declared.standing.Standing.{Standing}
use Rattle.ethcm_session.specs.declared.standing.Standing.TheVariants.{Connecting, Up}
use Rattle.ethcm_session.specs.Table.{standing_peer}
use Rattle.ethcm_session.proofs.Rows.{by_rows}
use Rattle.ethcm_window.specs.Sending.{sent_frame, unacknowledged}
use Rattle.ethcm_window.specs.Receiving.{missing_count}
use Rattle.fragmenter.specs.declared.joiner.Joined.{Joined}
use Rattle.fragmenter.specs.declared.joiner.Joined.TheVariants.{More, Whole, Broken}
use Rattle.ethcm_session.specs.Loss.{lost_at}
use Rattle.ethcm_end.specs.declared.answers.Input.{Input}
use Rattle.ethcm_end.specs.declared.answers.Input.TheVariants.{Nothing}
use Rattle.ethcm_end.specs.declared.answers.Ticked.{Ticked}
use Rattle.ethcm_end.specs.declared.answers.Ticked.TheVariants as ticks
use Rattle.ethcm_end.specs.States.{EndState, Reaction, gives, peer_of}
use Rattle.ethcm_end.specs.Rules.{ask, data_in, finished, framed_in, heard, input_of, kind_in, put}
use Rattle.ethcm_end.specs.Rules.{put_pieces, reacts, sent_or_ack, take_frames, tick_in, tick_of}
use Rattle.ethcm_end.specs.Rules.{tick_up, ticked, with_early, with_taken}
use Rattle.ethcm_end.specs.Rows.{IsBetween, PacketRules, TickRules, after_header, up}
use Rattle.ethcm_end.proofs.Cases.{is_between, kind_is, peered, unpeered}

-- ---- a packet

-- the missing frames were asked for, or are asked for now
by_asking : (P : EndState → Type 0) (s : EndState) (peer : Session) → (s.asked ≡ true → P s)
    → (s.asked ≡ false
    → P (record (put s peer (Nack s.rx.expected (missing_count s.rx.expected s.rx.kept))) {
      asked = true;
    }))
    → P (ask s peer)
by_asking P s peer before now =
    let missing : Part = Nack s.rx.expected (missing_count s.rx.expected s.rx.kept) in
    let asking : EndState = record (put s peer missing) { asked = true } in
    let by : (b : Bool) → s.asked ≡ b → P (if b then s else asking) =
    λ b. elim b as (λ v. s.asked ≡ v → P (if v then s else asking)) [
      | true ↦ before
      | false ↦ now
    ] in
    by s.asked refl

module _ (P : Reaction Input → Type 0) (s : EndState) (p : Packet) (rows : PacketRules P s p)
    (between : IsBetween s p) where
  taken_row : (next : ℕ) (frame : Frame) (made : Joined) → p.part ≡ Piece next s.rx.expected frame
      → (take_frames s frame).made ≡ made
      → P (finished (with_taken (after_header s p.src next) (take_frames s frame)) p.src made)
  taken_row next frame More e m = rows.taken next frame between e m
  taken_row next frame (Whole message) e m = rows.taken_whole next frame message between e m
  taken_row next frame Broken e m = rows.taken_broken next frame between e m

  early_row : (next seq : ℕ) (frame : Frame) → p.part ≡ Piece next seq frame
      → s.rx.expected < seq
      → P (gives (ask (with_early (after_header s p.src next) (sent_frame seq frame)) p.src)
      Nothing)
  early_row next seq frame e h =
      by_asking (λ t. P (gives t Nothing))
      (with_early (after_header s p.src next) (sent_frame seq frame)) p.src
      (rows.early_again next seq frame between e h) (rows.early next seq frame between e h)

  piece_row : (next seq : ℕ) (frame : Frame) → p.part ≡ Piece next seq frame
      → P (framed_in (after_header s p.src next) p.src (sent_frame seq frame))
  piece_row next seq frame e =
      elim (eqb_tells seq s.rx.expected) [
        | inl same ↦
            let there : p.part ≡ Piece next s.rx.expected frame =
            e ∙ ap (λ (n : ℕ). Piece next n frame) same.1 in
            rw same.0 (taken_row next frame (take_frames s frame).made there refl)
        | inr other ↦ elim (cases_lt seq s.rx.expected) [
          | inl lower ↦ rw (other.0, lt-ltb _ _ lower) (rows.old next seq frame between e lower)
          | inr from ↦
              let apart = other.1 in
              rw (other.0, le-ltb _ _ from)
              (early_row next seq frame e (omega arith))
        ]
      ]

  data_row : (part : Part) → p.part ≡ part → kind_in part ≡ None
      → P (data_in (heard (up s p.src true)) p.src part)
  unfolding data_in
  data_row (Conn kind) e k = absurd (grind arith)
  data_row (Ack next) e k = rows.frames_acked next between e
  data_row (Nack next count) e k = rows.frames_missed next count between e
  data_row (Piece next seq frame) e k = piece_row next seq frame e

  ack_row : (part : Part) → p.part ≡ part → part ≡ Conn kinds.Ack
      → P (data_in (heard (up s p.src true)) p.src part)
  unfolding data_in
  ack_row (Conn kinds.Ack) e k = rows.up_ack between e
  ack_row _ e k = absurd (grind arith)

pub by_rules : (P : Reaction Input → Type 0) (s : EndState) (p : Packet) → PacketRules P s p
    → P (input_of s p)
unfolding input_of
by_rules P s p rows =
    by_rows (λ outcome. P (reacts s p.src p.part outcome)) s.talk p.src p.dst (kind_in p.part)
    (record {
      connecting_connect = λ e k.
          rows.connecting_connect (unpeered s e) (kind_is p kinds.Connect k);
      connecting_connect_ack = λ e k d.
          rows.connecting_connect_ack (unpeered s e) (kind_is p kinds.ConnectAck k) d;
      connecting_ack = λ e k d. rows.connecting_ack (unpeered s e) (kind_is p kinds.Ack k) d;
      connecting_other = λ e a b c.
          rows.connecting_other (unpeered s e) (λ q. a (ap kind_in q)) (λ q. b (ap kind_in q))
          (λ q. c (ap kind_in q));
      up_lower = λ y c e l. rows.up_lower y (peered s y c e) l;
      up_greater = λ y c e l. rows.up_greater y (peered s y c e) l;
      up_connect = λ c e k. rows.up_connect (peered s p.src c e) (kind_is p kinds.Connect k);
      up_not_mine = λ c e k d. rows.up_not_mine (peered s p.src c e) (λ q. k (ap kind_in q)) d;
      up_reset = λ c e d k. rows.up_reset (is_between s p c e d) (kind_is p kinds.Reset k);
      up_connect_ack = λ c e d k.
          rows.up_connect_ack (is_between s p c e d) (kind_is p kinds.ConnectAck k);
      up_ack = λ c e d k.
          ack_row P s p rows (is_between s p c e d) p.part refl (kind_is p kinds.Ack k);
      up_data = λ c e d k. data_row P s p rows (is_between s p c e d) p.part refl k;
    })

-- ---- a tick

module _ (P : Reaction Ticked → Type 0) (s : EndState) (rows : TickRules P s) (peer : Session)
    (is : peer_of s ≡ Some peer) where
  beat_row : (sent : List SentFrame) → unacknowledged s.tx ≡ sent → s.ticks + 1 < lost_at
      → P (gives (sent_or_ack (ticked s) peer sent) ticks.Stays)
  beat_row [] e h = rows.idle peer is h e
  beat_row (f ∷ fs) e h =
      subst (λ sent. P (gives (put_pieces (ticked s) peer sent) ticks.Stays)) e
      (rows.again peer is h (λ q. let both : f ∷ fs ≡ [] = sym e ∙ q in grind arith))

  up_row : P (tick_up s peer)
  up_row =
      elim (cases_lt (s.ticks + 1) lost_at) [
        | inl before ↦ rw (lt-ltb _ _ before) (beat_row (unacknowledged s.tx) refl before)
        | inr last ↦ rw (le-ltb _ _ last) (rows.lost peer is last)
      ]

tick_row : (P : Reaction Ticked → Type 0) (s : EndState) (standing : Standing)
    → s.talk.standing ≡ standing → TickRules P s → P (tick_in s standing)
tick_row P s Connecting e rows = rows.connecting (ap standing_peer e)
tick_row P s (Up peer confirmed) e rows = up_row P s rows peer (ap standing_peer e)

pub by_tick_rules : (P : Reaction Ticked → Type 0) (s : EndState) → TickRules P s → P (tick_of s)
unfolding tick_of
by_tick_rules P s rows = tick_row P s s.talk.standing refl rows
