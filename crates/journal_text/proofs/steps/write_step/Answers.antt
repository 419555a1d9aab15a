use Rattle.std.proofs.Common.{Some}
use Rattle.journal_text.proofs.steps.write_step.Goals as goal

pub write_lines-requires : goal.write_lines-requires
write_lines-requires c = c.none-digests.ensures.fits c.args.k (Some c.in-Some.step.now)
