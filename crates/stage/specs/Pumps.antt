-- THE PUMP'S RULE: what a link does next by itself, as a function of the script and of the state.
use Rattle.std.specs.Prelude.{ℕ, zero, suc, Bool, true, not, List, slice_get, Option, Some}
use Rattle.std.specs.Prelude.{None, if◌then◌else◌}
use Rattle.linx_base.specs.declared.frame.Verdict.{Verdict}
use Rattle.linx_base.specs.declared.frame.Verdict.TheVariants.{Deliver, Lose}
use Rattle.linx_base.specs.declared.identity.LinkNo.{LinkNo}
use Rattle.linx_base.specs.declared.identity.Side.{Side}
use Rattle.linx_base.specs.declared.identity.Side.TheVariants.{First, Second}
use Rattle.journal.specs.declared.effect.Step.{Step}
use Rattle.journal.specs.declared.event.Event.{Event}
use Rattle.journal.specs.declared.event.Event.TheVariants.{Tick, Wire}
use Rattle.link_laws.specs.Sessions.{is_cut}
use Rattle.script_lang.specs.Parts.{ScriptParts, planned_verdicts}
use Rattle.trunk.specs.Events.{TrunkState}
use Rattle.trunk_moves.specs.Trunks.{RunTrunks}
use Rattle.fabric.specs.Links.{flies_from, are_plans_ended, is_up_at, stirs, tick_steps, wire_steps}

-- the side whose packet comes next: the first one, where packets from both are in flight
abbrev pub flying_side : TrunkState → Option Side
flying_side t =
    if flies_from First t then Some First else if flies_from Second t then Some Second else None

-- the first side that is up
abbrev pub up_side : TrunkState → Option Side
up_side t =
    if is_up_at First t then Some First else if is_up_at Second t then Some Second else None

-- the number is even
abbrev pub is_even : ℕ → Bool
is_even zero = true
is_even (suc n) = not (is_even n)

-- the two sides tick by turns: the first one, where there were so many ticks, and they are even
abbrev pub in_turn : ℕ → Side
in_turn ticks = if is_even ticks then First else Second

-- the side that ticks next where nothing flies: of a cut link one that is up; of another one that
-- stirs the two by turns
abbrev pub next_ticking : List Step → RunTrunks → LinkNo → Option Side
next_ticking P trunks l =
    if is_cut P l.0
    then up_side (trunks l.0)
    else if stirs P trunks l.0 then Some (in_turn (tick_steps P l.0)) else None

-- the verdict, or to deliver where there is none
abbrev pub or_deliver : Option Verdict → Verdict
or_deliver None = Deliver
or_deliver (Some verdict) = verdict

-- the verdict of a plan of which so many are used, or to deliver where it is used up
abbrev pub verdict_or : List Verdict → ℕ → Verdict
verdict_or plan used = or_deliver (slice_get plan used)

-- THE VERDICT of the next packet from a side: it is lost while the link is cut; it is delivered
-- where the link was settled, and else as the plan says
abbrev pub verdict_for : ScriptParts → List Step → LinkNo → Side → Verdict
verdict_for script P l from =
    if is_cut P l.0
    then Lose
    else if are_plans_ended P l.0
    then Deliver
    else verdict_or (planned_verdicts script l from) (wire_steps P l.0 from)

-- the tick of a side, if one ticks
abbrev pub ticked_by : LinkNo → Option Side → Option Event
ticked_by l None = None
ticked_by l (Some side) = Some (Tick l side)

-- the next packet meets its verdict, where one is in flight; else a side ticks
abbrev pub event_with : (Side → Verdict) → List Step → RunTrunks → LinkNo → Option Side
    → Option Event
event_with verdicts P trunks l None = ticked_by l (next_ticking P trunks l)
event_with verdicts P trunks l (Some from) = Some (Wire l from (verdicts from))

-- WHAT THE PUMP OF A LINK ASKS FOR: none where the link doesn't stir
abbrev pub pump_event : ScriptParts → List Step → RunTrunks → LinkNo → Option Event
pump_event script P trunks l =
    event_with (verdict_for script P l) P trunks l (flying_side (trunks l.0))

-- what the pump of a settled link that isn't cut asks for: each packet is delivered
abbrev pub settling_event : List Step → RunTrunks → LinkNo → Option Event
settling_event P trunks l = event_with (λ from. Deliver) P trunks l (flying_side (trunks l.0))
