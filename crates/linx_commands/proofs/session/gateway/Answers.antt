use Rattle.std.proofs.Common.{inr}
use Rattle.linx_commands.proofs.session.gateway.Goals as goal

pub returns-clause-session : goal.returns-clause-session
returns-clause-session g c =
    let served = rw c.in-Ok.ensures at c.serve-ended.ensures in
    inr (record {
      ended = c.serve-ended.result;
      told = c.status_of_gateway.ensures;
      after = c.serve-ended.new.self;
      made = c.into_journal.ensures.log;
      answers = served.answers;
      served = served.served;
      whole = served.whole (record { rising = tt; so_far = tt });
      read_faults = served.reads;
      write_faults = served.writes;
      faultless = served.faultless;
    })

pub returns-clause-legal : goal.returns-clause-legal
returns-clause-legal g c =
    (c.serve-ended.new.self.layout.shape, rw c.into_journal.ensures.log c.into_journal.ensures.legal)
