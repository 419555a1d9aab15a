use Rattle.std.proofs.Common.{rules, arith, refl}
use Rattle.script_lang.specs.Reading.{script_of}
use Rattle.script_lang.proofs.Folds.{next_line, bad_line, last_line}
use Rattle.script_lang.proofs.parsing.parse.Goals as goal

pub returns-in-Err-clause-bad : goal.returns-in-Err-clause-bad
returns-in-Err-clause-bad c =
    let loop = c.loop-rest in
    let first = c.first_line in
    let bytes = c.args.bytes.now in
    rw c.at.ensures
    (bad_line loop.reading loop.line (script_of bytes) bytes loop.rest.now first.result.0.now
    first.result.1.now first.ensures.lines loop.invariant.reads c.in-Err.error
    c.in-Err.ensures.gives)

pub loop-rest-preserved : goal.loop-rest-preserved
loop-rest-preserved c =
    let loop = c.loop-rest in
    let so_far = loop.invariant in
    let first = c.first_line in
    let whole = first.ensures.whole in
    let taken = c.in-Ok.ensures in
    let bytes = c.args.bytes.now in
    record {
      reads = next_line loop.reading loop.line (script_of bytes) bytes loop.rest.now
          first.result.0.now first.result.1.now first.ensures.lines so_far.reads c.in-Ok.reading
          whole so_far.shorter taken.gives;
      fits = taken.fits;
      shorter = omega (arith, whole, so_far.shorter);
      lines = omega (arith, whole, first.ensures.advances, so_far.lines);
      small = omega (arith, whole, taken.short refl, so_far.shorter);
    }

pub returns-clause-read : goal.returns-clause-read
returns-clause-read c =
    let loop = c.loop-rest in
    rw (last_line loop.reading loop.line (script_of c.args.bytes.now) _ loop.rest.now
    (search rules) loop.invariant.reads)
    c.finish.ensures.read

pub returns-clause-bad : goal.returns-clause-bad
returns-clause-bad c =
    let loop = c.loop-rest in
    rw (last_line loop.reading loop.line (script_of c.args.bytes.now) _ loop.rest.now
    (search rules) loop.invariant.reads)
    c.finish.ensures.bad
