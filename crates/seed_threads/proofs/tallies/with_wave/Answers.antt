use Rattle.seed_threads.proofs.Tallied.{have_room_for_wave, with_wave_tallied}
use Rattle.seed_threads.proofs.tallies.with_wave.Goals as goal

pub both-requires : goal.both-requires
both-requires g c =
    have_room_for_wave c.args.bytes.now c.args.actors c.args.first c.args.done c.args.wave
    c.requires.fits c.args.front c.tally_in_pieces-behind.result c.requires.front
    c.tally_in_pieces-behind.ensures

pub returns : goal.returns
returns g c =
    with_wave_tallied c.args.bytes.now c.args.actors c.args.first c.args.done c.args.wave c.args.front
    c.tally_in_pieces-behind.result c.both.result c.requires.front c.tally_in_pieces-behind.ensures
    c.both.ensures
