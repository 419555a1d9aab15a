use Rattle.std.proofs.Common.{ℕ, ◌∙◌, ap, sym, length, get_or}
use Rattle.linx_base.specs.Both.{Both}
use Rattle.carrier.specs.Events.{flight_from}
use Rattle.trunk.specs.Events.{TrunkState, swapped_from}
use Rattle.trunk_moves.specs.Packets.{place_of}
use Rattle.run_trunks.proofs.Placed.{is_put, is_read, was_stays}
use Rattle.run_trunks.proofs.slots.swap.Goals as goal

pub returns-clause-is : goal.returns-clause-is
returns-clause-is c =
    let d : Both TrunkState = c.index-trunks-place.result in
    is_put c.args.trunks.now c.args.place d c.swap.new.self _
    (c.swap.ensures.is
    ∙ ap (λ (place : ℕ). swapped_from c.args.from 0 place
    (get_or c.args.trunks.now c.args.place d).is)
    (c.place_within.ensures.place ∙ ap (place_of c.args.k) c.in_flight-count.ensures)
    ∙ ap (λ (t : TrunkState).
    swapped_from c.args.from 0 (place_of c.args.k (length (flight_from c.args.from t.link))) t)
    (sym (is_read c.args.trunks.now c.args.place d c.requires.within)))

pub returns-clause-was : goal.returns-clause-was
returns-clause-was c =
    was_stays c.args.trunks.now c.args.place c.index-trunks-place.result c.swap.new.self
    c.swap.ensures.was
