use Rattle.std.proofs.Common.{◌≡◌, ◌∙◌, length, refl, sym, subst, rules, arith, inl, ◌++◌, List, ℕ}
use Rattle.std.proofs.Common.{[], ◌<◌, length-append}
use Rattle.request_stream.specs.Serving.{Serves}
use Rattle.request_stream.specs.declared.stop.ServeStop.TheVariants.{Torn, ReadFault, NoMemory}
use Rattle.request_stream.proofs.Answered.{told_done, told_stopped}
use Rattle.request_stream.proofs.GoingOn.{is_empty_list, reads_none, writes_later}
use Rattle.request_stream.specs.Backlogs.{Come}
use Rattle.request_stream.specs.Ending.{HasReplied, first, moment}
use Rattle.request_stream.proofs.GoingOn.{serves_on, serves_come, serves_kept, stops_later}
use Rattle.request_stream.proofs.GoingOn.{replied_within, replied_goes_on}
use Rattle.request_stream.proofs.serving.serve_stream.Goals as goal

pub returns-in-Err-ReadFault-clause-stopped : goal.returns-in-Err-ReadFault-clause-stopped
returns-in-Err-ReadFault-clause-stopped g c = record {
  last = moment c.pieces.server c.pieces.backlog (g.S.Source.left c.read_piece.new.source)
      (g.K.Sink.held c.pieces.sink);
  serves = serves_on g.V.Server.asks g.V.Server.replies
      (first c.args.server.now (g.S.Source.left c.args.source.now) (g.K.Sink.held c.args.sink.now))
      (moment c.pieces.server c.pieces.backlog (g.S.Source.left c.pieces.source)
      (g.K.Sink.held c.pieces.sink))
      (moment c.pieces.server c.pieces.backlog (g.S.Source.left c.read_piece.new.source)
      (g.K.Sink.held c.pieces.sink))
      c.pieces.invariant.serves
      (serves_kept g.V.Server.asks g.V.Server.replies c.pieces.server c.pieces.backlog
      (g.S.Source.left c.pieces.source) (g.S.Source.left c.read_piece.new.source)
      (g.K.Sink.held c.pieces.sink) (c.in-Err-ReadFault.ensures.fault c.in-Err-ReadFault.field-0-is).0);
  within = c.pieces.invariant.at_within;
  few = omega (arith, c.pieces.invariant.within);
  source = refl;
  stops = (c.pieces.invariant.replied, refl, refl);
}

pub returns-in-Err-NoMemory-clause-stopped : goal.returns-in-Err-NoMemory-clause-stopped
returns-in-Err-NoMemory-clause-stopped g c =
    let lost = c.in-Err-NoMemory.ensures.refused c.in-Err-NoMemory.field-0-is in
    let more : Come =
    record { at = c.pieces.backlog.at; rest = c.pieces.backlog.rest ++ lost.0 } in
    record {
      last = moment c.pieces.server more (g.S.Source.left c.read_piece.new.source)
          (g.K.Sink.held c.pieces.sink);
      serves = serves_on g.V.Server.asks g.V.Server.replies
          (first c.args.server.now (g.S.Source.left c.args.source.now)
          (g.K.Sink.held c.args.sink.now))
          (moment c.pieces.server c.pieces.backlog (g.S.Source.left c.pieces.source)
          (g.K.Sink.held c.pieces.sink))
          (moment c.pieces.server more (g.S.Source.left c.read_piece.new.source)
          (g.K.Sink.held c.pieces.sink))
          c.pieces.invariant.serves
          (serves_come g.V.Server.asks g.V.Server.replies c.pieces.server c.pieces.backlog more
          (g.S.Source.left c.pieces.source) (g.S.Source.left c.read_piece.new.source)
          (g.K.Sink.held c.pieces.sink) (record { piece = lost.0; lost = lost.1; behind = refl }));
      within = c.pieces.invariant.at_within;
      few = omega (arith, lost.2, length-append c.pieces.backlog.rest lost.0);
      source = refl;
      stops = (inl refl, refl);
    }

pub returns-in-Err-clause-stopped : goal.returns-in-Err-clause-stopped
returns-in-Err-clause-stopped g c =
    stops_later g.V.Server.asks g.V.Server.replies g.V.Server.refuses g.V.Server.is_full g.V.Server.leaves
    (first c.args.server.now (g.S.Source.left c.args.source.now) (g.K.Sink.held c.args.sink.now))
    (moment c.pieces.server c.read_piece.new.backlog (g.S.Source.left c.read_piece.new.source)
    (g.K.Sink.held c.pieces.sink))
    c.in-Err.stop c.reply_to_all.new.server (g.S.Source.left c.read_piece.new.source)
    (g.K.Sink.held c.reply_to_all.new.sink)
    (serves_on g.V.Server.asks g.V.Server.replies
    (first c.args.server.now (g.S.Source.left c.args.source.now) (g.K.Sink.held c.args.sink.now))
    (moment c.pieces.server c.pieces.backlog (g.S.Source.left c.pieces.source)
    (g.K.Sink.held c.pieces.sink))
    (moment c.pieces.server c.read_piece.new.backlog (g.S.Source.left c.read_piece.new.source)
    (g.K.Sink.held c.pieces.sink))
    c.pieces.invariant.serves
    (serves_come g.V.Server.asks g.V.Server.replies c.pieces.server c.pieces.backlog
    c.read_piece.new.backlog (g.S.Source.left c.pieces.source)
    (g.S.Source.left c.read_piece.new.source) (g.K.Sink.held c.pieces.sink) c.in-Ok.ensures.came))
    (c.in-Err.ensures.stopped (g.S.Source.left c.read_piece.new.source))

pub pieces-preserved : goal.pieces-preserved
pieces-preserved g c =
    let source = g.S.Source.left c.read_piece.new.source in
    let replied = c.in-Ok-reply_to_all.ensures.replied source in
    record {
      serves = serves_on g.V.Server.asks g.V.Server.replies
          (first c.args.server.now (g.S.Source.left c.args.source.now)
          (g.K.Sink.held c.args.sink.now))
          (moment c.pieces.server c.read_piece.new.backlog source (g.K.Sink.held c.pieces.sink))
          (moment c.reply_to_all.new.server c.reply_to_all.new.backlog source
          (g.K.Sink.held c.reply_to_all.new.sink))
          (serves_on g.V.Server.asks g.V.Server.replies
          (first c.args.server.now (g.S.Source.left c.args.source.now)
          (g.K.Sink.held c.args.sink.now))
          (moment c.pieces.server c.pieces.backlog (g.S.Source.left c.pieces.source)
          (g.K.Sink.held c.pieces.sink))
          (moment c.pieces.server c.read_piece.new.backlog source (g.K.Sink.held c.pieces.sink))
          c.pieces.invariant.serves
          (serves_come g.V.Server.asks g.V.Server.replies c.pieces.server c.pieces.backlog
          c.read_piece.new.backlog (g.S.Source.left c.pieces.source) source
          (g.K.Sink.held c.pieces.sink) c.in-Ok.ensures.came))
          (c.in-Ok-reply_to_all.ensures.ok source);
      replied = replied;
      at_within = c.in-Ok-reply_to_all.ensures.within;
      within = replied_within g.V.Server.asks
          (moment c.reply_to_all.new.server c.reply_to_all.new.backlog source
          (g.K.Sink.held c.reply_to_all.new.sink))
          c.in-Ok-reply_to_all.ensures.within replied;
      chunk = search rules;
      reads = c.in-Ok.ensures.counts_nothing ∙ c.pieces.invariant.reads;
      writes = c.in-Ok-reply_to_all.ensures.writes ∙ c.pieces.invariant.writes;
      faultless = λ f. (c.read_piece.ensures.faultless (c.pieces.invariant.faultless f)).0;
    }

pub returns-then-is_empty-clause-done : goal.returns-then-is_empty-clause-done
returns-then-is_empty-clause-done g c =
    let source = g.S.Source.left c.read_piece.new.source in
    let held = g.K.Sink.held c.pieces.sink in
    let came = c.read_piece.new.backlog in
    let empty : came.rest ≡ [] = is_empty_list came.rest (search rules) in
    record {
      at = came.at;
      serves =
          subst
          (λ (rest : List ℕ). Serves g.V.Server.asks g.V.Server.replies
          (first c.args.server.now (g.S.Source.left c.args.source.now)
          (g.K.Sink.held c.args.sink.now))
          (record { server = c.pieces.server; at = came.at; rest = rest; left = source; held = held }))
          empty
          (serves_on g.V.Server.asks g.V.Server.replies
          (first c.args.server.now (g.S.Source.left c.args.source.now)
          (g.K.Sink.held c.args.sink.now))
          (moment c.pieces.server c.pieces.backlog (g.S.Source.left c.pieces.source) held)
          (moment c.pieces.server came source held) c.pieces.invariant.serves
          (serves_come g.V.Server.asks g.V.Server.replies c.pieces.server c.pieces.backlog came
          (g.S.Source.left c.pieces.source) source held c.in-Ok-eq0.ensures.came));
      within = omega (arith, c.in-Ok-eq0.ensures.at, c.pieces.invariant.at_within);
      at_end = (c.in-Ok-eq0.ensures.end (search rules)).0;
    }

pub returns-in-Ok-eq0-clause-stopped : goal.returns-in-Ok-eq0-clause-stopped
returns-in-Ok-eq0-clause-stopped g c =
    let source = g.S.Source.left c.read_piece.new.source in
    let held = g.K.Sink.held c.pieces.sink in
    let came = c.read_piece.new.backlog in
    let ended = c.in-Ok-eq0.ensures.end (search rules) in
    let some : 0 < length came.rest = search rules in
    record {
      last = moment c.pieces.server came source held;
      serves =
          serves_on g.V.Server.asks g.V.Server.replies
          (first c.args.server.now (g.S.Source.left c.args.source.now)
          (g.K.Sink.held c.args.sink.now))
          (moment c.pieces.server c.pieces.backlog (g.S.Source.left c.pieces.source) held)
          (moment c.pieces.server came source held) c.pieces.invariant.serves
          (serves_come g.V.Server.asks g.V.Server.replies c.pieces.server c.pieces.backlog came
          (g.S.Source.left c.pieces.source) source held c.in-Ok-eq0.ensures.came);
      within = omega (arith, c.in-Ok-eq0.ensures.at, c.pieces.invariant.at_within);
      few = c.in-Ok-eq0.ensures.few;
      source = refl;
      stops = (
        record {
          place = c.at.ensures;
          some = some;
          goes_on =
              replied_goes_on g.V.Server.asks (moment c.pieces.server came source held) some
              (subst (λ (k : Come). HasReplied g.V.Server.asks (moment c.pieces.server k source held))
              (sym ended.1) c.pieces.invariant.replied);
          at_end = ended.0;
        },
        refl,
        refl,
      );
    }

pub returns-in-Err-clause-reads : goal.returns-in-Err-clause-reads
returns-in-Err-clause-reads g c =
    reads_none g.S.Source.last_count c.in-Err.stop (g.S.Source.faults c.args.source.now)
    (g.S.Source.faults c.read_piece.new.source) c.in-Err.ensures.reads_nothing
    (c.in-Ok.ensures.counts_nothing ∙ c.pieces.invariant.reads)

pub returns-in-Err-clause-writes : goal.returns-in-Err-clause-writes
returns-in-Err-clause-writes g c =
    writes_later g.K.Sink.last_count c.in-Err.stop (g.K.Sink.faults c.args.sink.now)
    (g.K.Sink.faults c.pieces.sink) (g.K.Sink.faults c.reply_to_all.new.sink)
    c.pieces.invariant.writes c.in-Err.ensures.writes

pub returns-in-Err-ReadFault-clause-answers : goal.returns-in-Err-ReadFault-clause-answers
returns-in-Err-ReadFault-clause-answers g c =
    told_stopped g.V.Server.asks g.V.Server.replies g.V.Server.refuses g.V.Server.is_full
    g.V.Server.leaves c.args.server.now ReadFault c.pieces.server
    (g.S.Source.left c.args.source.now) (g.S.Source.left c.read_piece.new.source)
    (g.K.Sink.held c.args.sink.now) (g.K.Sink.held c.pieces.sink)
    (returns-in-Err-ReadFault-clause-stopped g c)

pub returns-in-Err-NoMemory-clause-answers : goal.returns-in-Err-NoMemory-clause-answers
returns-in-Err-NoMemory-clause-answers g c =
    told_stopped g.V.Server.asks g.V.Server.replies g.V.Server.refuses g.V.Server.is_full
    g.V.Server.leaves c.args.server.now NoMemory c.pieces.server
    (g.S.Source.left c.args.source.now) (g.S.Source.left c.read_piece.new.source)
    (g.K.Sink.held c.args.sink.now) (g.K.Sink.held c.pieces.sink)
    (returns-in-Err-NoMemory-clause-stopped g c)

pub returns-in-Err-clause-answers : goal.returns-in-Err-clause-answers
returns-in-Err-clause-answers g c =
    told_stopped g.V.Server.asks g.V.Server.replies g.V.Server.refuses g.V.Server.is_full
    g.V.Server.leaves c.args.server.now c.in-Err.stop c.reply_to_all.new.server
    (g.S.Source.left c.args.source.now) (g.S.Source.left c.read_piece.new.source)
    (g.K.Sink.held c.args.sink.now) (g.K.Sink.held c.reply_to_all.new.sink)
    (returns-in-Err-clause-stopped g c)

pub returns-in-Ok-eq0-clause-answers : goal.returns-in-Ok-eq0-clause-answers
returns-in-Ok-eq0-clause-answers g c =
    told_stopped g.V.Server.asks g.V.Server.replies g.V.Server.refuses g.V.Server.is_full
    g.V.Server.leaves c.args.server.now (Torn c.at.result) c.pieces.server
    (g.S.Source.left c.args.source.now) (g.S.Source.left c.read_piece.new.source)
    (g.K.Sink.held c.args.sink.now) (g.K.Sink.held c.pieces.sink)
    (returns-in-Ok-eq0-clause-stopped g c)

pub returns-then-is_empty-clause-answers : goal.returns-then-is_empty-clause-answers
returns-then-is_empty-clause-answers g c =
    told_done g.V.Server.asks g.V.Server.replies g.V.Server.refuses c.args.server.now
    c.pieces.server (g.S.Source.left c.args.source.now) (g.S.Source.left c.read_piece.new.source)
    (g.K.Sink.held c.args.sink.now) (g.K.Sink.held c.pieces.sink)
    (returns-then-is_empty-clause-done g c)
