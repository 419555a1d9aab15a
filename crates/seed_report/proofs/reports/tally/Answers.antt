use Rattle.std.proofs.Common.{◌<◌, ◌^◌, arith}
use Rattle.seed_report.proofs.Tallies.{few_tallied}
use Rattle.seed_report.proofs.reports.tally.Goals as goal

pub add-requires : goal.add-requires
add-requires c =
    let few : c.seeds.seed < 2 ^ 63 =
    omega (
      arith,
      c.seeds-test.true,
      c.from-from.ensures,
      c.from.ensures,
      c.ranges.first.fits,
      c.ranges.more.fits,
    ) in
    few_tallied c.args.bytes.now c.args.actors c.args.first c.seeds.seed c.seeds.tally few
    c.seeds.invariant
