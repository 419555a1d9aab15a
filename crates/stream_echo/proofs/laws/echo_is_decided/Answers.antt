use Rattle.stream_echo.proofs.Decided.{echo_decided}
use Rattle.stream_echo.proofs.laws.echo_is_decided.Goals as goal

pub returns : goal.returns
returns c = echo_decided
