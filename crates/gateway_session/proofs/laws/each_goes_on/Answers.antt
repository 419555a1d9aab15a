use Rattle.gateway_session.proofs.GoingOn.{replied, left}
use Rattle.gateway_session.proofs.laws.each_goes_on.Goals as goal

pub returns : goal.returns
returns c = record { replied = replied; stopped = left }
