use Rattle.std.proofs.Common.{inl, inr, refl}
use Rattle.linx_commands.proofs.works.work_of_file.Goals as goal

pub returns-in-Ok-clause-worked : goal.returns-in-Ok-clause-worked
returns-in-Ok-clause-worked g c =
    let done = c.work_on.ensures.worked in
    let told = c.in-Ok.ensures.told in
    inr (record {
      text = done.text;
      cause = rw (← told) done.cause;
      read = record {
        opened = c.in-Ok.file;
        rest = c.work_on.new.source;
        told = told;
        read = done.read;
      };
      written = done.written;
    })

pub returns-in-Err-clause-worked : goal.returns-in-Err-clause-worked
returns-in-Err-clause-worked g c =
    inl (record {
      why = c.in-Err.why;
      refused = c.in-Err.ensures.refused;
      status = c.unstarted.ensures.status;
      empty = c.unstarted.ensures.empty;
      silent = refl;
    })
