-- Each event keeps what holds of a link, and tells rightly what became of a side.
use Rattle.std.proofs.Common.{◌≡◌, ◌<◌, ◌≤◌, ℕ, Bool, true, false, Option, Some, None, List, []}
use Rattle.std.proofs.Common.{All, length, refl, sym, subst, arith, IsSome, slice_get, remove, swap}
use Rattle.std.proofs.lemmas.List.Elements.{All-nil}
use Rattle.linx_base.specs.declared.identity.Session.{Session}
use Rattle.linx_base.specs.declared.identity.Side.{Side}
use Rattle.linx_base.specs.declared.identity.Side.TheVariants.{First, Second}
use Rattle.linx_base.specs.declared.frame.Message.{Message}
use Rattle.linx_base.specs.Frames.{IsMessage}
use Rattle.linx_base.specs.Numbers.{boot_of}
use Rattle.ethcm_headers.specs.declared.packets.Packet.{Packet}
use Rattle.ethcm_end.specs.States.{peer_of}
use Rattle.ethcm_end.specs.Rules.{input_of, offer_of, restart_of, tick_of}
use Rattle.carrier.specs.Records.{HalfState, new_half}
use Rattle.carrier.specs.Events.{LinkState, delivered, flight_from, half_of, left_after, lost_from}
use Rattle.carrier.specs.Events.{near_changed, near_lost, near_offered, new_link, near_received}
use Rattle.carrier.specs.Events.{near_restarted, near_swapped, near_ticked, near_took, offered_to}
use Rattle.carrier.specs.Events.{restarted_at, seen_from, swapped_from, ticked_at, turned}
use Rattle.carrier.specs.Events.{with_next}
use Rattle.carrier.specs.Keeping.{IsFlying, KeepsHalf, KeepsLink}
use Rattle.carrier.specs.Laws.{EventsKeep}
use Rattle.carrier.proofs.Ends.{beat, came, offered}
use Rattle.carrier.proofs.Fronts.{all_at}
use Rattle.carrier.proofs.Growing.{keeps_later}
use Rattle.carrier.proofs.Joining.{receives_anew}
use Rattle.carrier.proofs.Lookups.{of_none}
use Rattle.carrier.proofs.Places.{all_left, all_swapped}
use Rattle.carrier.proofs.Reacting.{Steps, steps_beat, steps_came, steps_offered, steps_restart}
use Rattle.carrier.proofs.Stepping.{keeps_alone, keeps_with}

-- ---- the link seen from its other side

turned_keeps : (v : LinkState) → KeepsLink v → KeepsLink (turned v)
turned_keeps v k = record { piece = k.piece; sized = k.sized; near = k.far; far = k.near }

pub seen_keeps : (side : Side) (v : LinkState) → KeepsLink v → KeepsLink (seen_from side v)
seen_keeps First v k = k
seen_keeps Second v k = turned_keeps v k

-- ---- the events of the first side

module _ (v : LinkState) (k : KeepsLink v) where
  far_alone : KeepsHalf k.piece v.second v.first []
  far_alone = keeps_alone k.piece v.second v.first v.back k.far

  changed_keeps : (c : HalfState) (out : List Packet) → Steps k.piece v.first c v.second v.there out
      → KeepsLink (near_changed v c out)
  changed_keeps c out s =
      record {
        piece = k.piece;
        sized = k.sized;
        near = s.keeps;
        far = keeps_later k.piece v.second v.first c v.back s.later k.far;
      }

  received_keeps : (p : Packet) → IsFlying k.piece v.second v.first p
      → KeepsLink (near_received v (input_of v.first.end p))
  received_keeps p f =
      let sized = k.sized in
      changed_keeps _ _ (steps_came k.piece v.first v.second v.there k.near far_alone (omega arith)
      p f (input_of v.first.end p).state (input_of v.first.end p).answer (came v.first.end p))

  ticked_keeps : KeepsLink (near_ticked v)
  ticked_keeps =
      let sized = k.sized in
      changed_keeps _ _ (steps_beat k.piece v.first v.second v.there k.near far_alone (omega arith)
      (tick_of v.first.end).state (tick_of v.first.end).answer (beat v.first.end))

  offered_keeps : (m : Message) (peer : Session) → peer_of v.first.end ≡ Some peer → IsMessage m
      → KeepsLink (near_offered v m)
  offered_keeps m peer e is =
      let sized = k.sized in
      changed_keeps _ _ (steps_offered k.piece v.first v.second v.there k.near far_alone
      (omega arith) m (offer_of v.first.end m) peer e is (offered v.first.end m peer e))

  restarted_keeps : (boot : ℕ) → boot_of v.first.end.talk.mine < boot
      → KeepsLink (near_restarted v boot)
  restarted_keeps boot h =
      let sized = k.sized in
      let c : HalfState = with_next v.first (restart_of v.first.end boot) in
      let turn =
      steps_restart k.piece v.first v.second v.there k.near far_alone (omega arith) boot h in
      record {
        piece = k.piece;
        sized = k.sized;
        near = turn.keeps;
        far = keeps_later k.piece v.second v.first c v.back turn.later k.far;
      }

  lost_keeps : (n : ℕ) → KeepsLink (near_lost v n)
  lost_keeps n =
      record {
        piece = k.piece;
        sized = k.sized;
        near = keeps_with k.piece v.first v.second v.there (remove v.there n) k.near
            (all_left (IsFlying k.piece v.first v.second) v.there n k.near.packets);
        far = k.far;
      }

  swapped_keeps : (i j : ℕ) → i < length v.there → j < length v.there
      → KeepsLink (near_swapped v i j)
  swapped_keeps i j h l =
      record {
        piece = k.piece;
        sized = k.sized;
        near = keeps_with k.piece v.first v.second v.there (swap v.there i j) k.near
            (all_swapped (IsFlying k.piece v.first v.second) v.there i j h l k.near.packets);
        far = k.far;
      }

  -- the packets in flight to the first side, one of which may be gone
  left_keeps : (keep : Bool) (n : ℕ) → KeepsLink (record v { back = left_after keep n v.back })
  left_keeps true n = k
  left_keeps false n =
      record {
        piece = k.piece;
        sized = k.sized;
        near = k.near;
        far = keeps_with k.piece v.second v.first v.back (remove v.back n) k.far
            (all_left (IsFlying k.piece v.second v.first) v.back n k.far.packets);
      }

-- the size of the pieces stays
left_piece : (v : LinkState) (k : KeepsLink v) (keep : Bool) (n : ℕ)
    → (left_keeps v k keep n).piece ≡ k.piece
unfolding left_keeps
left_piece v k true n = refl
left_piece v k false n = refl

took_keeps : (v : LinkState) → KeepsLink v → (n : ℕ) (keep : Bool) (packet : Option Packet)
    → slice_get v.back n ≡ packet → KeepsLink (near_took v n keep packet)
took_keeps v k n keep None e = k
took_keeps v k n keep (Some p) e =
    let f : IsFlying k.piece v.second v.first p =
    all_at (IsFlying k.piece v.second v.first) v.back n p k.far.packets e in
    received_keeps (record v { back = left_after keep n v.back }) (left_keeps v k keep n) p
    (subst (λ piece. IsFlying piece v.second v.first p) (sym (left_piece v k keep n)) f)

-- ---- the events

offered_to_peer : (v : LinkState) → KeepsLink v → (m : Message) (peer : Option Session)
    → peer_of v.first.end ≡ peer → IsSome peer → IsMessage m → KeepsLink (near_offered v m)
offered_to_peer v k m None e some is = absurd (grind arith)
offered_to_peer v k m (Some peer) e some is = offered_keeps v k m peer e is

begins_keeps : (window piece : ℕ) → 1 ≤ window
    → KeepsHalf piece (new_half window piece) (new_half window piece) []
begins_keeps window piece h =
    record {
      book = record {
        known = omega arith;
        falls = tt;
        peer_held = of_none _ None refl;
        past_held = tt;
        peer_rises = of_none _ None refl;
        past_rises = tt;
        messages = All-nil IsMessage;
        past_messages = tt;
        unpaired = λ e. refl;
        handed = tt;
      };
      cut = refl;
      window = h;
      sends = (omega arith, refl);
      receives = receives_anew piece [];
      bound = record {
        base_taken = of_none _ None refl;
        base_none = of_none _ None refl;
        confirmed = of_none _ None refl;
        was_sent = of_none _ None refl;
      };
      out = refl;
      packets = All-nil (IsFlying piece (new_half window piece) (new_half window piece));
    }

pub begins : (window piece : ℕ) → 1 ≤ window → 64 ≤ piece → KeepsLink (new_link window piece)
begins window piece h sized =
    record {
      piece = piece;
      sized = sized;
      near = begins_keeps window piece h;
      far = begins_keeps window piece h;
    }

module _ (v : LinkState) (k : KeepsLink v) where
  pub deliver_keeps : (from : Side) (n : ℕ) (keep : Bool) → KeepsLink (delivered from n keep v)
  deliver_keeps First n keep =
      turned_keeps _ (took_keeps (turned v) (turned_keeps v k) n keep
      (slice_get v.there n) refl)
  deliver_keeps Second n keep = took_keeps v k n keep (slice_get v.back n) refl

  pub tick_keeps : (side : Side) → KeepsLink (ticked_at side v)
  tick_keeps side = seen_keeps side _ (ticked_keeps (seen_from side v) (seen_keeps side v k))

  pub offer_keeps : (side : Side) (m : Message) → IsSome (peer_of (half_of side v).end)
      → IsMessage m → KeepsLink (offered_to side m v)
  offer_keeps side m up is =
      seen_keeps side _ (offered_to_peer (seen_from side v) (seen_keeps side v k) m
      (peer_of (half_of side v).end) refl up is)

  pub restart_keeps : (side : Side) (boot : ℕ) → boot_of (half_of side v).end.talk.mine < boot
      → KeepsLink (restarted_at side boot v)
  restart_keeps side boot h =
      seen_keeps side _ (restarted_keeps (seen_from side v) (seen_keeps side v k) boot h)

  pub lose_keeps : (from : Side) (n : ℕ) → KeepsLink (lost_from from n v)
  lose_keeps from n = seen_keeps from _ (lost_keeps (seen_from from v) (seen_keeps from v k) n)

  pub swap_keeps : (from : Side) (i j : ℕ) → i < length (flight_from from v)
      → j < length (flight_from from v) → KeepsLink (swapped_from from i j v)
  swap_keeps from i j h l =
      seen_keeps from _ (swapped_keeps (seen_from from v) (seen_keeps from v k) i j h l)

pub events_keep : EventsKeep
events_keep =
    record {
      begins = begins;
      delivered = λ from n keep v k. deliver_keeps v k from n keep;
      ticked = λ side v k. tick_keeps v k side;
      offered = λ side m v up is k. offer_keeps v k side m up is;
      restarted = λ side boot v h k. restart_keeps v k side boot h;
      lost = λ from n v k. lose_keeps v k from n;
      swapped = λ from i j v h l k. swap_keeps v k from i j h l;
    }
