-- What a run's links are like after a history: whether one stirs, and what was counted of it.
use Rattle.std.specs.Prelude.{ℕ, zero, suc, Bool, true, false, not, ◌&&◌, ◌||◌, ◌==◌, nat_lt}
use Rattle.std.specs.Prelude.{List, [], ◌∷◌, length, if◌then◌else◌}
use Rattle.std.specs.List.{list_any}
use Rattle.linx_base.specs.declared.identity.Side.{Side}
use Rattle.linx_base.specs.declared.identity.Side.TheVariants.{First, Second}
use Rattle.carrier.specs.Events.{flight_from, is_quiet}
use Rattle.journal.specs.Shapes.{Shape}
use Rattle.journal.specs.declared.effect.Step.{Step}
use Rattle.journal.specs.declared.head.Head.{Head}
use Rattle.journal.specs.declared.head.Head.TheVariants.{Settle, Tick, Wire}
use Rattle.link_laws.specs.Moves.{is_up}
use Rattle.link_laws.specs.Sessions.{is_cut, same_side}
use Rattle.trunk.specs.Events.{TrunkState, kept_of}
use Rattle.trunk_moves.specs.Trunks.{RunTrunks}
use Rattle.fabric.specs.declared.line.Line.{Line}

-- a packet from a side is in flight
abbrev pub flies_from : Side → TrunkState → Bool
flies_from from t = nat_lt 0 (length (flight_from from t.link))

-- a side is up
abbrev pub is_up_at : Side → TrunkState → Bool
is_up_at side t = is_up (kept_of side t)

-- a link stirs: where it is cut, while a packet is in flight or a side is up; else while a packet
-- is in flight or an end of it has work
abbrev pub stirs_if : Bool → TrunkState → Bool
stirs_if true t =
    (flies_from First t || flies_from Second t) || (is_up_at First t || is_up_at Second t)
stirs_if false t = not (is_quiet t.link)

-- link number l of a run stirs
abbrev pub stirs : List Step → RunTrunks → ℕ → Bool
stirs P trunks l = stirs_if (is_cut P l) (trunks l)

-- none of the first so many links stirs
abbrev pub none_stirs : List Step → RunTrunks → ℕ → Bool
none_stirs P trunks zero = true
none_stirs P trunks (suc n) = none_stirs P trunks n && not (stirs P trunks (suc n))

-- no link of a run stirs
abbrev pub no_link_stirs : Shape → List Step → RunTrunks → Bool
no_link_stirs shape P trunks = none_stirs P trunks (length shape.links)

-- ---- what was counted of a link

-- the head ends the plans of a link
abbrev pub ends_plans : ℕ → Head → Bool
ends_plans l (Settle k) = k.0 == l
ends_plans l _ = false

-- a link's plans are ended
abbrev pub are_plans_ended : List Step → ℕ → Bool
are_plans_ended P l = list_any (λ (s : Step). ends_plans l s.head) P

-- the head is the verdict of a packet from a side
abbrev pub is_wire : ℕ → Side → Head → Bool
is_wire l from (Wire k at verdict) = k.0 == l && same_side from at
is_wire l from _ = false

-- how many packets from a side met their verdicts while the link wasn't cut
abbrev pub wire_steps : List Step → ℕ → Side → ℕ
wire_steps [] l from = 0
wire_steps (s ∷ P) l from =
    if is_wire l from s.head && not (is_cut P l)
    then suc (wire_steps P l from)
    else wire_steps P l from

-- the head ticks a side of a link
abbrev pub is_tick : ℕ → Head → Bool
is_tick l (Tick k side) = k.0 == l
is_tick l _ = false

-- how many ticks both sides of a link made together
abbrev pub tick_steps : List Step → ℕ → ℕ
tick_steps [] l = 0
tick_steps (s ∷ P) l = if is_tick l s.head then suc (tick_steps P l) else tick_steps P l

-- what the fabric notes of a link, as the history leaves it
abbrev pub line_left : List Step → ℕ → Line
line_left P l = record {
  cut = is_cut P l;
  plans_ended = are_plans_ended P l;
  from_first = wire_steps P l First;
  from_second = wire_steps P l Second;
  ticks = tick_steps P l;
}
