use Rattle.std.proofs.Common.{inl, inr, refl}
use Rattle.linx_commands.proofs.serving.in_order_of_file.Goals as goal

pub returns-in-Ok-clause-played : goal.returns-in-Ok-clause-played
returns-in-Ok-clause-played g c =
    let ran = c.in_order.ensures in
    let told = c.in-Ok.ensures.told in
    inr (record {
      cause = rw (← told) ran.cause;
      headline = rw (← told) ran.headline;
      complete = rw (← told) ran.complete;
      read = record {
        opened = c.in-Ok.file;
        rest = c.in_order.new.script;
        told = told;
        read = ran.source;
      };
      written = ran.sink;
    })

pub returns-in-Err-clause-played : goal.returns-in-Err-clause-played
returns-in-Err-clause-played g c =
    inl (record {
      why = c.in-Err.why;
      refused = c.in-Err.ensures.refused;
      status = c.unstarted.ensures.status;
      empty = c.unstarted.ensures.empty;
      silent = refl;
    })
