use Rattle.std.proofs.Common.{inl, inr, refl}
use Rattle.linx_commands.proofs.keeping.kept_gateway.Goals as goal

pub returns-in-Err-clause-served : goal.returns-in-Err-clause-served
returns-in-Err-clause-served g c =
    inl (record {
      why = c.in-Err.why;
      refused = c.in-Err.ensures.refused;
      told = c.unstarted.ensures.status;
      empty = c.unstarted.ensures.empty;
      quiet = (refl, refl);
      unmade = c.in-Err.ensures.untouched;
    })

pub returns-in-Ok-clause-served : goal.returns-in-Ok-clause-served
returns-in-Ok-clause-served g c =
    inr (record {
      made = c.make.new.self;
      begun = c.in-Ok.ensures.made;
      unfaulted = c.in-Ok.ensures.counts_nothing;
      ended = c.gateway-status.result.status;
      served = c.gateway-status.ensures.session;
      kept = c.keep-kept.result;
      written = c.keep-kept.ensures;
      told = c.status_of_kept.ensures;
    })
