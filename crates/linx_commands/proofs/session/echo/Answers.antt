use Rattle.linx_commands.proofs.session.echo.Goals as goal

pub returns-clause-session : goal.returns-clause-session
returns-clause-session g c =
    let served = c.serve-ended.ensures in
    let told = c.unstarted.ensures in
    rw told.status (record {
      ended = c.serve-ended.result;
      told = c.status_of_session.ensures;
      never_full = served.never_full;
      answers = served.answers;
      echoed = served.echoed;
      read_faults = served.reads;
      write_faults = served.writes;
      faultless = served.faultless;
      empty = told.empty;
    })
