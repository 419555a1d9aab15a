-- A call at a side of a trunk, whichever it is.
use Rattle.std.proofs.Common.{◌≡◌, ◌≢◌, ◌≤◌, ℕ, IsSome, refl, sym, ◌∙◌, subst, arith, length}
use Rattle.linx_base.specs.Sides.{other_of}
use Rattle.linx_base.specs.declared.identity.Side.{Side}
use Rattle.ethcm_end.specs.States.{peer_of}
use Rattle.carrier.specs.Events.{half_of}
use Rattle.rlnh_end.specs.Calls.{Saying, close_of, opened_of, publish_of, query_of, send_of}
use Rattle.trunk.specs.Calls.{HasNumbersFor, IsNamed, MayCall, MaySay, TellsCall, makes}
use Rattle.trunk.specs.Calls.{saying_of}
use Rattle.trunk.specs.Events.{HasNumbersLeft, TrunkState, side_of, tables_of}
use Rattle.trunk.specs.Keeping.{KeepsTrunk}
use Rattle.trunk.specs.Laws.{IsOffered}
use Rattle.trunk.specs.Parts.{side_says, with_side}
use Rattle.trunk.specs.declared.call.SideCall.{SideCall}
use Rattle.trunk.specs.declared.call.SideCall.TheVariants.{Asked, Closed, Opened, Published}
use Rattle.trunk.specs.declared.call.SideCall.TheVariants.{Restarted, Sent}
use Rattle.trunk.proofs.EachEvent.BothSides.{events_keep}
use Rattle.trunk.proofs.EachEvent.Trunks.{agree, calls_tell, offers, turns_tell}
use Rattle.trunk.proofs.Messages.MaySend.{IsReady, meets_peer, ready}

-- ---- what holds after a call, and what it tells

pub call_keeps : (call : SideCall) (side : Side) (t : TrunkState) → KeepsTrunk t
    → MayCall call side t → IsNamed call → KeepsTrunk (makes call side t)
call_keeps (Opened inc name) side t k may named = events_keep.opened side inc name.now t may k
call_keeps (Closed inc) side t k may named = events_keep.closed side inc t k
call_keeps (Restarted boot) side t k may named = events_keep.restarted side boot t may k
call_keeps (Published inc name) side t k may named =
    events_keep.published side inc name.now t may k
call_keeps (Asked name) side t k may named = events_keep.asked side name.now t named k
call_keeps (Sent from name to signal) side t k may named =
    events_keep.sent side from name.now to signal.now t may k

pub call_tells : (call : SideCall) (side : Side) (t : TrunkState) → KeepsTrunk t
    → MayCall call side t → TellsCall call side t (makes call side t)
call_tells (Opened inc name) side t k may =
    record {
      says = calls_tell.opened side inc name.now t k;
      down = calls_tell.down side (λ s. opened_of s inc name.now) t k;
    }
call_tells (Closed inc) side t k may =
    record {
      says = calls_tell.closed side inc t k;
      down = calls_tell.down side (λ s. close_of s inc) t k;
    }
call_tells (Restarted boot) side t k may = turns_tell.restart side boot t
call_tells (Published inc name) side t k may =
    record {
      says = calls_tell.published side inc name.now t k;
      down = calls_tell.down side (λ s. publish_of s inc name.now) t k;
    }
call_tells (Asked name) side t k may =
    record {
      says = calls_tell.asked side name.now t k;
      down = calls_tell.down side (λ s. query_of s name.now) t k;
    }
call_tells (Sent from name to signal) side t k may =
    calls_tell.sent side from name.now to signal.now t k (meets_peer side t k to may.receiver)
    may.receiver

pub call_other : (call : SideCall) (side : Side) (t : TrunkState)
    → side_of (other_of side) (makes call side t) ≡ side_of (other_of side) t
call_other (Opened inc name) side t = calls_tell.other side (λ s. opened_of s inc name.now) t
call_other (Closed inc) side t = calls_tell.other side (λ s. close_of s inc) t
call_other (Restarted boot) side t = turns_tell.restart_other side boot t
call_other (Published inc name) side t = calls_tell.other side (λ s. publish_of s inc name.now) t
call_other (Asked name) side t = calls_tell.other side (λ s. query_of s name.now) t
call_other (Sent from name to signal) side t =
    calls_tell.other side (λ s. send_of s from name.now to signal.now) t

-- ---- what a side says to a call

pub may_say : (call : SideCall) (side : Side) (t : TrunkState) → KeepsTrunk t
    → MayCall call side t → MaySay call (tables_of side t)
may_say (Opened inc name) side t k may = may.has_address
may_say (Closed inc) side t k may = tt
may_say (Restarted boot) side t k may = tt
may_say (Published inc name) side t k may = may.has_address
may_say (Asked name) side t k may = tt
may_say (Sent from name to signal) side t k may =
    ((agree side t k).met to ∙ may.receiver, may.sender.has_address)

few : (made : Saying) → IsOffered made 1 → IsOffered made 2
few made offered =
    record { messages = offered.messages; few = omega (arith, offered.few) }

call_offers : (call : SideCall) (side : Side) (t : TrunkState) → KeepsTrunk t
    → MayCall call side t → IsNamed call → IsOffered (saying_of call (tables_of side t)) 2
call_offers (Opened inc name) side t k may named =
    few _ ((offers side t k).opened inc name.now may)
call_offers (Closed inc) side t k may named = few _ ((offers side t k).closed inc)
call_offers (Restarted boot) side t k may named = record { messages = tt; few = omega arith }
call_offers (Published inc name) side t k may named =
    few _ ((offers side t k).published inc name.now may)
call_offers (Asked name) side t k may named = few _ ((offers side t k).asked name.now named)
call_offers (Sent from name to signal) side t k may named =
    (offers side t k).sent from name.now to signal.now may

-- a call that isn't to boot again
module _ (call : SideCall) (says : (boot : ℕ) → call ≢ Restarted boot) where
  has_numbers : (side : Side) (t : TrunkState) → HasNumbersFor call side t → HasNumbersLeft side t
  has_numbers side t left = numbers call says left
    where
      numbers : (c : SideCall) → ((boot : ℕ) → c ≢ Restarted boot) → HasNumbersFor c side t
          → HasNumbersLeft side t
      numbers (Opened inc name) says left = left
      numbers (Closed inc) says left = left
      numbers (Restarted boot) says left = absurd (says boot refl)
      numbers (Published inc name) says left = left
      numbers (Asked name) says left = left
      numbers (Sent from name to signal) says left = left

  -- what a side that is up says goes over its link
  pub call_ready : (side : Side) (t u : TrunkState) → KeepsTrunk t → MayCall call side t
      → IsNamed call → HasNumbersFor call side t → IsSome (peer_of (half_of side t.link).end)
      → u ≡ with_side side t (side_says (side_of side t) (saying_of call (tables_of side t)))
      → IsReady side u
  call_ready side t u k may named left up e =
      let made : Saying = saying_of call (tables_of side t) in
      let offered : IsOffered made 2 = call_offers call side t k may named in
      let four : length made.says ≤ 4 = omega (arith, offered.few) in
      subst (λ (x : TrunkState). IsReady side x) (sym e)
      (ready side t (side_says (side_of side t) made) made.says (agree side t k).out refl up
      offered.messages four (has_numbers side t left))
