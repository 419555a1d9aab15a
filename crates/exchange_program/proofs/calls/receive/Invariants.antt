use Rattle.linx_api.specs.Asked.{IsRunning}
use Rattle.exchange_program.proofs.calls.receive.Given as goal

abbrev pub invariant-loop : goal.invariant-loop
invariant-loop g l = IsRunning l.end
