use Rattle.std.proofs.Common.{subst}
use Rattle.turn_lock.specs.Passes.{HasEach, IsLeastMissing}
use Rattle.turn_lock.proofs.Passes.{told_rests}
use Rattle.turn_lock.proofs.lock.TurnLock.close.Goals as goal

pub returns-in-Some-clause-missing : goal.returns-in-Some-clause-missing
returns-in-Some-clause-missing g c = subst (λ ps. IsLeastMissing c.args.self ps c.in-Some.missing)
    c.as_slice.ensures.value c.in-Some.ensures.missing

pub finish-requires-clause-each : goal.finish-requires-clause-each
finish-requires-clause-each g c = (
  c.in_default.ensures.some,
  subst (λ ps. HasEach c.args.self ps) c.as_slice.ensures.value c.in_default.ensures.missing,
)

pub returns-clause-each : goal.returns-clause-each
returns-clause-each g c =
    subst (λ ps. HasEach c.args.self ps) c.as_slice.ensures.value c.in_default.ensures.missing

pub returns-clause-rests : goal.returns-clause-rests
returns-clause-rests g c = told_rests c.args.self.seats g.S.Story.story g.S.Story.fixed
    c.args.passes.items c.in-Some-finish.state c.in-Some-finish.ensures
