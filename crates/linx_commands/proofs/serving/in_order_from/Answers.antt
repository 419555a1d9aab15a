use Rattle.linx_commands.proofs.serving.in_order_from.Goals as goal

pub returns-in-None-clause-played : goal.returns-in-None-clause-played
returns-in-None-clause-played g c =
    let ran = c.in_order.ensures in
    rw c.in-None.is (record {
      cause = ran.cause;
      headline = ran.headline;
      complete = ran.complete;
      read = ran.source;
      written = ran.sink;
    })
