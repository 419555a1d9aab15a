use Rattle.std.proofs.Common.{rules, arith}
use Rattle.order_lines.specs.Fronts.{front_of}
use Rattle.order_lines.proofs.Folds.{bad_line, last_line, next_line}
use Rattle.order_lines.proofs.front.front_of.Goals as goal

pub returns-in-Err-clause-bad : goal.returns-in-Err-clause-bad
returns-in-Err-clause-bad c =
    let loop = c.lines in
    let first = c.first_line in
    rw c.error_at.ensures
    (bad_line c.args.makers loop.front.items loop.line (front_of c.args.makers c.args.bytes.now)
    loop.rest.now first.result.0.now first.result.1.now first.ensures.lines loop.invariant.goes
    c.in-Err.error c.in-Err.ensures.gives)

pub lines-preserved : goal.lines-preserved
lines-preserved c =
    let loop = c.lines in
    let so_far = loop.invariant in
    let first = c.first_line in
    let whole = first.ensures.whole in
    record {
      goes = next_line c.args.makers loop.front.items loop.line
          (front_of c.args.makers c.args.bytes.now) loop.rest.now first.result.0.now
          first.result.1.now first.ensures.lines so_far.goes c.add_line.new.front.items
          c.in-Ok.ensures.gives;
      few = c.in-Ok.ensures.few;
      lines = omega (arith, whole, first.ensures.advances, so_far.lines);
    }

pub returns-clause-read : goal.returns-clause-read
returns-clause-read c =
    let loop = c.lines in
    last_line c.args.makers loop.front.items loop.line (front_of c.args.makers c.args.bytes.now)
    loop.rest.now (search rules) loop.invariant.goes
