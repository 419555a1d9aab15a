-- The counts of a side are no more than the steps so far.
use Rattle.std.proofs.Common.{◌≡◌, ℕ, suc, ◌<◌, ◌≤◌, Bool, true, false, List, [], ◌∷◌, length}
use Rattle.std.proofs.Common.{refl, arith, if◌then◌else◌}
use Rattle.std.specs.List.{list_any}
use Rattle.linx_base.specs.declared.identity.Side.{Side}
use Rattle.journal.specs.declared.effect.Step.{Step}
use Rattle.link_laws.specs.Sessions.{boots, downs, silent_ticks, tells_heard, ticks}
use Rattle.link_tables.specs.Sides.{HasRoom, earlier_downs, side_left}
use Rattle.link_laws.proofs.Moves.Restarts.{few-boots, few-downs}
use Rattle.link_tables.proofs.Had.{boots-earlier}

silent-few : (P : List Step) (node link : ℕ) (side : Side)
    → silent_ticks P node link side ≤ length P
silent-few [] node link side = omega arith
silent-few (s ∷ P) node link side =
    go (list_any (tells_heard node link) s.effects) (ticks link side s.head)
    (silent-few P node link side)
  where
    go : (a b : Bool) → silent_ticks P node link side ≤ length P
        → (if a then 0
        else (if b then suc (silent_ticks P node link side) else silent_ticks P node link side))
        ≤ suc (length P)
    go true b few = omega arith
    go false true few = omega arith
    go false false few = omega arith

-- so the counts of one more step fit
pub room-left : (P : List Step) (node link : ℕ) (side : Side) → length P < 4294967295
    → HasRoom (side_left P node link side)
room-left P node link side short =
    let over : length (earlier_downs P node link) ≡ boots P node = boots-earlier P node link in
    let few : boots P node ≤ length P = few-boots P node in
    let down : downs P node link ≤ length P = few-downs P node link in
    let quiet : silent_ticks P node link side ≤ length P = silent-few P node link side in
    record { boots = omega arith; downs = omega arith; silent = omega arith }
