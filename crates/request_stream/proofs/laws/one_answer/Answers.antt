use Rattle.request_stream.proofs.OneAnswer.{one_answer}
use Rattle.request_stream.proofs.laws.one_answer.Goals as goal

pub returns : goal.returns
returns g c = λ decided bytes.
    one_answer g.V.Server.asks g.V.Server.replies g.V.Server.refuses decided c.args._server.now bytes
