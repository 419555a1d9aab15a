use Rattle.std.proofs.Common.{◌≤◌, ◌<◌, length, arith}
use Rattle.text_check.proofs.Few.{steps_few}
use Rattle.text_check.proofs.checking.check_of.Goals as goal

pub judge-requires : goal.judge-requires
judge-requires c =
    let few : length c.in_ok-told.told.log.steps ≤ length c.args.text.now =
    steps_few c.args.script.now.names c.args.text.now c.in_ok-told.told.log.steps
    c.in_ok-told.ensures.read in
    let short : length c.args.text.now < 4294967295 = c.requires.short in
    omega (arith, few, short)
