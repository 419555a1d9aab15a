use Rattle.std.proofs.Common.{inl, ◌∙◌, refl, rules, arith}
use Rattle.request_stream.specs.Ending.{moment}
use Rattle.request_stream.proofs.GoingOn.{serves_none, serves_on, writes_later}
use Rattle.request_stream.proofs.serving.reply_to_all.Goals as goal

pub requests-init : goal.requests-init
requests-init g c = record {
  serves = λ left. serves_none g.V.Server.asks g.V.Server.replies
      (moment c.args.server.now c.args.backlog.now left (g.K.Sink.held c.args.sink.now));
  counted = refl;
  within = c.requires.within;
  counts = refl;
}

pub returns-in-Bad-clause-stopped : goal.returns-in-Bad-clause-stopped
returns-in-Bad-clause-stopped g c = λ left. record {
  last = moment c.requests.server c.requests.backlog left (g.K.Sink.held c.requests.sink);
  serves = c.requests.invariant.serves left;
  within = c.requests.invariant.within;
  few = omega (arith, c.requests.invariant.counted, c.requires.few);
  source = refl;
  stops = (record { place = search rules; is_bad = search rules }, inl refl, refl);
}

pub requests-preserved : goal.requests-preserved
requests-preserved g c = record {
  serves = λ left. serves_on g.V.Server.asks g.V.Server.replies
      (moment c.args.server.now c.args.backlog.now left (g.K.Sink.held c.args.sink.now))
      (moment c.requests.server c.requests.backlog left (g.K.Sink.held c.requests.sink))
      (moment c.reply_to_next.new.server c.reply_to_next.new.backlog left
      (g.K.Sink.held c.reply_to_next.new.sink))
      (c.requests.invariant.serves left) (c.in-Ok.ensures.ok left);
  counted = omega (arith, c.in-Ok.ensures.taken);
  within = omega (arith, c.in-Ok.ensures.taken, c.in-Whole.ensures);
  counts = c.in-Ok.ensures.writes ∙ c.requests.invariant.counts;
}

pub returns-in-Err-clause-stopped : goal.returns-in-Err-clause-stopped
returns-in-Err-clause-stopped g c = λ left. record {
  last = moment c.requests.server c.requests.backlog left (g.K.Sink.held c.requests.sink);
  serves = c.requests.invariant.serves left;
  within = c.requests.invariant.within;
  few = omega (arith, c.requests.invariant.counted, c.requires.few);
  source = refl;
  stops = c.in-Err.ensures.stopped left;
}

pub returns-in-Err-clause-writes : goal.returns-in-Err-clause-writes
returns-in-Err-clause-writes g c =
    writes_later g.K.Sink.last_count c.in-Err.stop (g.K.Sink.faults c.args.sink.now)
    (g.K.Sink.faults c.requests.sink) (g.K.Sink.faults c.reply_to_next.new.sink)
    c.requests.invariant.counts c.in-Err.ensures.writes
