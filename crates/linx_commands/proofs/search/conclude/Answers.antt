use Rattle.std.proofs.Common.{◌≡◌, ℕ, [], ◌+◌, Option, refl, subst}
use Rattle.seed_search.specs.Searches.{IsAnswer, IsFirst, ShowNothing, found_text}
use Rattle.seed_search.specs.declared.search.Found.{Found}
use Rattle.linx_commands.proofs.Searching.{ended_found}
use Rattle.linx_commands.proofs.Working.{silent_undone, silent_unfailed, writes_none}
use Rattle.linx_commands.specs.declared.outcome.Status.TheVariants.{FoundNone}
use Rattle.linx_commands.proofs.search.conclude.Goals as goal

pub returns-in-Some : goal.returns-in-Some
returns-in-Some g c search wanted bytes answer =
    let found : Found = c.in-Some.found in
    let first : IsFirst bytes search.first search.more search.sought wanted found.seed
    found.line.items =
    subst (λ (o : Option Found). IsAnswer bytes search.first search.more search.sought wanted o)
    c.in-Some.is answer in
    record {
      text = found_text found.seed found.line.items;
      is = rw c.unstarted.ensures.status (ended_found search wanted bytes c.write_found.result
          found.seed found.line.items c.unstarted.result.journal.log c.write_found.ensures.kinds
          first c.unstarted.ensures.empty);
      written = rw c.unstarted.ensures.status c.write_found.ensures.sink;
      legal = c.unstarted.ensures.legal;
    }

pub returns-in-None : goal.returns-in-None
returns-in-None g c search wanted bytes answer =
    let none : ShowNothing bytes search.sought wanted search.first
    (search.first + search.more + 1) =
    subst (λ (o : Option Found). IsAnswer bytes search.first search.more search.sought wanted o)
    c.in-None.is answer in
    record {
      text = [];
      is = rw c.unstarted-in-None.ensures.status (record {
        none = none;
        empty = c.unstarted-in-None.ensures.empty;
      });
      written = rw c.unstarted-in-None.ensures.status (writes_none g.K.Sink.held g.K.Sink.faults
          g.K.Sink.last_count g.K.Sink.can_take c.args.out.now FoundNone []
          (silent_undone FoundNone refl) (silent_unfailed FoundNone refl));
      legal = c.unstarted-in-None.ensures.legal;
    }
