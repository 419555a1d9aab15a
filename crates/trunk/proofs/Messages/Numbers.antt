-- A packet takes no number from an end: it frees frames, or the session begins anew.
use Rattle.std.proofs.Common.{◌≤◌, ◌-◌, ℕ, Bool, Option, Some, None, arith, slice_get, length-drop}
use Rattle.linx_base.specs.Sides.{other_of}
use Rattle.linx_base.specs.declared.identity.Side.{Side}
use Rattle.linx_base.specs.declared.identity.Side.TheVariants.{First, Second}
use Rattle.ethcm_headers.specs.declared.packets.Packet.{Packet}
use Rattle.ethcm_window.specs.Sending.{after_ack, left_of}
use Rattle.ethcm_end.specs.declared.answers.Input.{Input}
use Rattle.ethcm_end.specs.declared.answers.Input.TheVariants as inputs
use Rattle.ethcm_end.specs.Rules.{input_of}
use Rattle.ethcm_end.specs.States.{EndState}
use Rattle.ethcm_end.proofs.ByRule.{by_rules}
use Rattle.ethcm_end.proofs.Rising.{by_ack}
use Rattle.carrier.specs.Records.{HalfState}
use Rattle.carrier.specs.Events.{LinkState, delivered, drained, half_of, near_delivered, near_took}
use Rattle.carrier.specs.Events.{recorded, turned}

input_left : (s : EndState) (p : Packet) → left_of s.tx ≤ left_of (input_of s p).state.tx
input_left s p =
    let acked : (next : ℕ) → left_of s.tx ≤ left_of (after_ack s.tx next) =
    λ next. by_ack (λ tx. left_of s.tx ≤ left_of tx) s.tx next (omega arith)
    (λ l h. omega (arith, l, h, length-drop (next - s.tx.base) s.tx.frames)) in
    by_rules (λ r. left_of s.tx ≤ left_of r.state.tx) s p (record {
      connecting_connect = λ e k. omega arith;
      connecting_connect_ack = λ e k d. omega arith;
      connecting_ack = λ e k d. omega arith;
      connecting_other = λ e a b c. omega arith;
      up_lower = λ peer e h. omega arith;
      up_greater = λ peer e h. omega arith;
      up_connect = λ e k. omega arith;
      up_not_mine = λ e k d. omega arith;
      up_reset = λ b k. omega arith;
      up_connect_ack = λ b k. omega arith;
      up_ack = λ b k. omega arith;
      frames_acked = λ next b k. acked next;
      frames_missed = λ next count b k. acked next;
      old = λ next seq frame b k h. acked next;
      early_again = λ next seq frame b k h a. acked next;
      early = λ next seq frame b k h a. acked next;
      taken = λ next frame b k m. acked next;
      taken_whole = λ next frame m b k w. acked next;
      taken_broken = λ next frame b k w. omega arith;
    })

recorded_left : (n : ℕ) (h : HalfState) (s : EndState) (answer : Input) → n ≤ left_of s.tx
    → n ≤ left_of (recorded h s answer).end.tx
recorded_left n h s inputs.Nothing le = le
recorded_left n h s inputs.WentUp le = le
recorded_left n h s inputs.WentDown le = le
recorded_left n h s (inputs.Got m) le = le

near_left : (v : LinkState) (k : ℕ) (keep : Bool)
    → left_of v.first.end.tx ≤ left_of (near_delivered v k keep).first.end.tx
near_left v k keep = by_packet (slice_get v.back k)
  where
    by_packet : (o : Option Packet)
        → left_of v.first.end.tx ≤ left_of (near_took v k keep o).first.end.tx
    by_packet None = omega arith
    by_packet (Some p) =
        let r = input_of v.first.end p in
        recorded_left (left_of v.first.end.tx) v.first (drained r.state) r.answer
        (input_left v.first.end p)

-- as many numbers are left to the side that a packet comes to
pub delivered_left : (from : Side) (k : ℕ) (keep : Bool) (v : LinkState)
    → left_of (half_of (other_of from) v).end.tx
    ≤ left_of (half_of (other_of from) (delivered from k keep v)).end.tx
delivered_left First k keep v = near_left (turned v) k keep
delivered_left Second k keep v = near_left v k keep
