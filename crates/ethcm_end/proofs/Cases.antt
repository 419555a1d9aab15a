-- The table of sessions once, as cases: what each of its rows makes of an end; and the data rules
-- by the number of a piece.
use Rattle.std.proofs.Common.{◌≡◌, ◌<◌, Bool, true, false, Some, None, ap, refl, arith, inl, inr}
use Rattle.std.proofs.Common.{le-ltb, lt-ltb}
use Rattle.std.proofs.lemmas.Bool.{cases_lt}
use Rattle.std.proofs.lemmas.Bool.Decides.{eqb_tells}
use Rattle.linx_base.specs.declared.identity.Session.{Session}
use Rattle.linx_base.specs.declared.frame.ConnKind.{ConnKind}
use Rattle.linx_base.specs.declared.frame.ConnKind.TheVariants as kinds
use Rattle.linx_base.specs.declared.frame.SentFrame.{SentFrame}
use Rattle.ethcm_headers.specs.declared.packets.Packet.{Packet}
use Rattle.ethcm_headers.specs.declared.packets.Part.{Part}
use Rattle.ethcm_headers.specs.declared.packets.Part.TheVariants.{Conn, Ack, Nack, Piece}
use Rattle.ethcm_session.specs.declared.standing.Standing.TheVariants.{Connecting, Up}
use Rattle.ethcm_session.specs.Table.{standing_peer}
use Rattle.ethcm_session.proofs.Rows.{by_rows as by_table}
use Rattle.ethcm_end.specs.declared.answers.Input.{Input}
use Rattle.ethcm_end.specs.declared.answers.Input.TheVariants.{Nothing, WentUp, WentDown}
use Rattle.ethcm_end.specs.States.{EndState, Reaction, gives, peer_of}
use Rattle.ethcm_end.specs.Rules.{anew, data_in, early, framed_in, gone_down, heard, input_of}
use Rattle.ethcm_end.specs.Rules.{kind_in, old, reacts, replied, took}
use Rattle.ethcm_end.specs.Rows.{IsBetween, up}

-- ---- where an end stands, and what a packet is

part_of : (part : Part) (kind : ConnKind) → kind_in part ≡ Some kind → part ≡ Conn kind
part_of (Conn k) kind e = ap Conn (grind arith)
part_of (Ack next) kind e = absurd (grind arith)
part_of (Nack next count) kind e = absurd (grind arith)
part_of (Piece next seq frame) kind e = absurd (grind arith)

pub kind_is : (p : Packet) (kind : ConnKind) → kind_in p.part ≡ Some kind → p.part ≡ Conn kind
kind_is p kind e = part_of p.part kind e

pub unpeered : (s : EndState) → s.talk.standing ≡ Connecting → peer_of s ≡ None
unpeered s e = ap standing_peer e

pub peered : (s : EndState) (peer : Session) (confirmed : Bool)
    → s.talk.standing ≡ Up peer confirmed → peer_of s ≡ Some peer
peered s peer confirmed e = ap standing_peer e

pub is_between : (s : EndState) (p : Packet) (confirmed : Bool)
    → s.talk.standing ≡ Up p.src confirmed → p.dst ≡ s.talk.mine.0 → IsBetween s p
is_between s p confirmed e d = record { from = peered s p.src confirmed e; to = d }

-- ---- the table of sessions

-- what each row of the table makes of an end: P is to hold of it
pub record SessionRows (P : Reaction Input → Type 0) (s : EndState) (p : Packet) : Type 0 where
  -- the packet is ignored
  pub ignored : P (gives s Nothing)
  -- connecting, and asked by a CONNECT
  pub asked :
      peer_of s ≡ None → p.part ≡ Conn kinds.Connect
      → P (gives (replied s p.src kinds.ConnectAck) Nothing)
  -- it goes up by a CONNECT_ACK, or by an ACK, which confirms it
  pub goes_up :
      peer_of s ≡ None → p.part ≡ Conn kinds.ConnectAck → p.dst ≡ s.talk.mine.0
      → P (gives (replied (anew (up s p.src false)) p.src kinds.Ack) WentUp)
  pub goes_up_confirmed :
      peer_of s ≡ None → p.part ≡ Conn kinds.Ack → p.dst ≡ s.talk.mine.0
      → P (gives (anew (up s p.src true)) WentUp)
  -- it goes down by a greater session, or by a RESET
  pub goes_down : (peer : Session) → peer_of s ≡ Some peer → P (gives (gone_down s) WentDown)
  -- it answers its peer
  pub answers : peer_of s ≡ Some p.src → P (gives (replied (heard s) p.src kinds.Ack) Nothing)
  -- its peer confirms
  pub confirmed :
      IsBetween s p → p.part ≡ Conn kinds.Ack → P (gives (heard (up s p.src true)) Nothing)
  -- it hears data, an ACK or a NACK of frames
  pub data_part :
      IsBetween s p → kind_in p.part ≡ None
      → P (data_in (heard (up s p.src true)) p.src p.part)

module _ (P : Reaction Input → Type 0) (s : EndState) (p : Packet) where
  confirmed_row : SessionRows P s p → IsBetween s p → (part : Part) → p.part ≡ part
      → part ≡ Conn kinds.Ack → P (data_in (heard (up s p.src true)) p.src part)
  unfolding data_in
  confirmed_row rows between (Conn kind) e k = rows.confirmed between (grind arith)
  confirmed_row rows between (Ack next) e k = absurd (grind arith)
  confirmed_row rows between (Nack next count) e k = absurd (grind arith)
  confirmed_row rows between (Piece next seq frame) e k = absurd (grind arith)

  pub by_rows : SessionRows P s p → P (input_of s p)
  unfolding input_of
  by_rows rows =
      by_table (λ outcome. P (reacts s p.src p.part outcome)) s.talk p.src p.dst (kind_in p.part)
      (record {
        connecting_connect = λ e k. rows.asked (unpeered s e) (kind_is p kinds.Connect k);
        connecting_connect_ack = λ e k d. rows.goes_up (unpeered s e) (kind_is p kinds.ConnectAck k)
            d;
        connecting_ack = λ e k d. rows.goes_up_confirmed (unpeered s e) (kind_is p kinds.Ack k) d;
        connecting_other = λ e a b c. rows.ignored;
        up_lower = λ y c e l. rows.ignored;
        up_greater = λ y c e l. rows.goes_down y (peered s y c e);
        up_connect = λ c e k. rows.answers (peered s p.src c e);
        up_not_mine = λ c e k d. rows.ignored;
        up_reset = λ c e d k. rows.goes_down p.src (peered s p.src c e);
        up_connect_ack = λ c e d k. rows.answers (peered s p.src c e);
        up_ack = λ c e d k. confirmed_row rows (is_between s p c e d) p.part refl
            (kind_is p kinds.Ack k);
        up_data = λ c e d k. rows.data_part (is_between s p c e d) k;
      })

-- ---- a piece

-- what a piece makes of an end, by its number against the expected one
pub record NumberRows (P : Reaction Input → Type 0) (s : EndState) (peer : Session)
    (sent : SentFrame) : Type 0 where
  pub expected : sent.number ≡ s.rx.expected → P (took s peer sent.frame)
  pub below : sent.number < s.rx.expected → P (old s peer)
  pub above : s.rx.expected < sent.number → P (early s peer sent)

pub by_number : (P : Reaction Input → Type 0) (s : EndState) (peer : Session) (sent : SentFrame)
    → NumberRows P s peer sent → P (framed_in s peer sent)
by_number P s peer sent rows =
    elim (eqb_tells sent.number s.rx.expected) [
      | inl same ↦ rw same.0 (rows.expected same.1)
      | inr other ↦ elim (cases_lt sent.number s.rx.expected) [
        | inl lower ↦ rw (other.0, lt-ltb _ _ lower) (rows.below lower)
        | inr from ↦
            let apart = other.1 in
            rw (other.0, le-ltb _ _ from) (rows.above (omega arith))
      ]
    ]
