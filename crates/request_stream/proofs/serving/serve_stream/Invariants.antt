use Rattle.std.proofs.Common.{◌≡◌, ◌+◌, ◌-◌, ◌≤◌, length}
use Rattle.request_stream.specs.Serving.{Serves}
use Rattle.request_stream.specs.Ending.{HasReplied, first, moment, stream_limit}
use Rattle.request_stream.proofs.serving.serve_stream.Given as goal

-- the session so far: every request that has come was replied to, and no fault was counted
abbrev pub invariant-pieces : goal.invariant-pieces
invariant-pieces g l = record {
  serves : Serves g.V.Server.asks g.V.Server.replies
      (first l.initial.server (g.S.Source.left l.initial.source) (g.K.Sink.held l.initial.sink))
      (moment l.server l.backlog (g.S.Source.left l.source) (g.K.Sink.held l.sink));
  replied : HasReplied g.V.Server.asks
      (moment l.server l.backlog (g.S.Source.left l.source) (g.K.Sink.held l.sink));
  at_within : l.backlog.at ≤ stream_limit;
  within : l.backlog.at + length l.backlog.rest ≤ stream_limit;
  chunk : length l.chunk ≡ 4096;
  reads : g.S.Source.faults l.source ≡ g.S.Source.faults l.initial.source;
  writes : g.K.Sink.faults l.sink ≡ g.K.Sink.faults l.initial.sink;
  faultless : g.S.Source.is_faultless l.initial.source → g.S.Source.is_faultless l.source;
}

abbrev pub decreases-pieces : goal.decreases-pieces
decreases-pieces g l = stream_limit + 1 - (l.backlog.at + length l.backlog.rest)
