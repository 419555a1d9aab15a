use Rattle.std.proofs.Common.{map, string_bytes, subst}
use Rattle.linx_commands.specs.Charts.{IsChartEnd}
use Rattle.linx_commands.specs.Printed.{IsTextDone}
use Rattle.linx_commands.specs.Searches.{IsSearchEnd}
use Rattle.linx_commands.proofs.works.look.Goals as goal

pub returns-in-Find-clause-looked : goal.returns-in-Find-clause-looked
returns-in-Find-clause-looked g c =
    let found = c.find.ensures.found in
    rw c.in-Find.is (record {
      text = found.text;
      is = subst (λ wanted. IsSearchEnd c.in-Find.search wanted c.args.bytes.now
          c.find.result.status found.text c.find.result.journal.log) c.wanted.ensures found.is;
      written = found.written;
      legal = found.legal;
    })

pub returns-in-Order-clause-looked : goal.returns-in-Order-clause-looked
returns-in-Order-clause-looked g c =
    let ordered = c.order.ensures in
    rw c.in-Order.is (record {
      text = ordered.text;
      is = ordered.is;
      written = ordered.written;
      legal = ordered.legal;
    })

pub returns-in-Chart-clause-looked : goal.returns-in-Chart-clause-looked
returns-in-Chart-clause-looked g c =
    let charted = c.chart.ensures in
    rw c.in-Chart.is (record {
      text = charted.text;
      is = subst (λ listed. IsTextDone (IsChartEnd c.in-Chart.drawn listed c.args.bytes.now)
          c.chart.result.status charted.text c.chart.result.journal.log) c.makers.ensures charted.is;
      written = charted.written;
      legal = charted.legal;
    })

pub returns-in-Seeds-clause-looked : goal.returns-in-Seeds-clause-looked
returns-in-Seeds-clause-looked g c =
    let reported = c.report.ensures.reported in
    rw c.in-Seeds.is (record {
      text = reported.text;
      is = reported.is;
      written = reported.written;
      legal = reported.legal;
    })

pub returns-in-Check-clause-looked : goal.returns-in-Check-clause-looked
returns-in-Check-clause-looked g c =
    let checked = c.check.ensures in
    rw c.in-Check.is (record {
      text = checked.text;
      is = checked.is;
      written = checked.written;
      legal = checked.legal;
    })

pub returns-in-Replay-clause-looked : goal.returns-in-Replay-clause-looked
returns-in-Replay-clause-looked g c =
    let replayed = c.replay.ensures in
    rw c.in-Replay.is (record {
      text = replayed.text;
      is = replayed.is;
      written = replayed.written;
      legal = replayed.legal;
    })
