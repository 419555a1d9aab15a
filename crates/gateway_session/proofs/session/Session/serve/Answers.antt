use Rattle.std.proofs.Common.{Ok, Err}
use Rattle.gateway_session.proofs.Wholes.{is_whole}
use Rattle.gateway_session.proofs.session.Session.serve.Goals as goal

pub returns-in-Ok-clause-whole : goal.returns-in-Ok-clause-whole
returns-in-Ok-clause-whole g c = λ numbered.
    is_whole c.args.self.now (g.S.Source.left c.args.source.now) (g.K.Sink.held c.args.sink.now)
    numbered (Ok tt) c.serve_stream.new.server (g.S.Source.left c.serve_stream.new.source)
    (g.K.Sink.held c.serve_stream.new.sink) c.in-Ok.ensures.done

pub returns-in-Err-clause-whole : goal.returns-in-Err-clause-whole
returns-in-Err-clause-whole g c = λ numbered.
    is_whole c.args.self.now (g.S.Source.left c.args.source.now) (g.K.Sink.held c.args.sink.now)
    numbered (Err c.in-Err.stop) c.serve_stream.new.server
    (g.S.Source.left c.serve_stream.new.source) (g.K.Sink.held c.serve_stream.new.sink)
    c.in-Err.ensures.stopped
