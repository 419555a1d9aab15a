use Rattle.std.proofs.Common.{◌≡◌, ◌+◌, ◌*◌, ◌-◌, map}
use Rattle.std.specs.List.{range_with_len}
use Rattle.work_gen.specs.Generated.{client}
use Rattle.work_gen.specs.Building.{with_actors}
use Rattle.work_gen.proofs.building.add_clients.Given as goal

-- the clients so far
abbrev pub invariant-loop-done : goal.invariant-loop-done
invariant-loop-done l = l.script
    ≡ with_actors l.initial.script
    (map (client l.n l.k) (range_with_len (8 * (l.k - 1) + 1) l.done))
