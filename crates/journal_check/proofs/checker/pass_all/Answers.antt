use Rattle.std.proofs.Common.{◌≡◌, ℕ, suc, ◌<◌, Bool, length, Some, sym, ◌∙◌, ap, add-one, arith}
use Rattle.std.proofs.Common.{slice_get}
use Rattle.journal.specs.History.{is_by}
use Rattle.journal_check.specs.Standings.{standing_past}
use Rattle.journal_check.specs.declared.standing.Standing.{Standing}
use Rattle.journal_check.proofs.Lists.{is-get, length-set, within-list}
use Rattle.journal_check.proofs.Passing.{pass-more, pass-rest}
use Rattle.journal_check.proofs.checker.pass_all.Goals as goal

pub loop-place-preserved : goal.loop-place-preserved
loop-place-preserved c =
    let within : c.loop-place.place < length c.loop-place.standings = omega arith in
    let there : slice_get c.loop-place.standings c.loop-place.place
    ≡ Some c.index-standings-place.result =
    is-get c.loop-place.standings c.loop-place.place c.index-standings-place.result within
    c.index-standings-place.is in
    let f = λ (k : ℕ) (x : Standing). standing_past (is_by c.args.step.now.by (suc k))
    c.args.step.now.head c.args.step.now.effects x in
    let mine : c.is_by-mine.result ≡ is_by c.args.step.now.by (suc c.loop-place.place) =
    c.is_by-mine.ensures ∙ ap (is_by c.args.step.now.by) (add-one c.loop-place.place) in
    let is : c.pass.new.self ≡ f c.loop-place.place c.index-standings-place.result =
    c.in_ok-pass.ensures
    ∙ ap (standing_past c.is_by-mine.result c.args.step.now.head c.args.step.now.effects)
    (sym c.index-standings-place.is)
    ∙ ap (λ (b : Bool). standing_past b c.args.step.now.head c.args.step.now.effects
    c.index-standings-place.result) mine in
    record {
      counted = length-set c.loop-place.standings c.loop-place.place c.pass.new.self
          ∙ c.loop-place.invariant.counted;
      done = pass-more c.args.standings.now c.loop-place.standings c.loop-place.place
          c.pass.new.self c.index-standings-place.result f within c.loop-place.invariant.done
          c.loop-place.invariant.rest there is;
      rest = pass-rest c.args.standings.now c.loop-place.standings c.loop-place.place
          c.pass.new.self c.index-standings-place.result f within c.loop-place.invariant.done
          c.loop-place.invariant.rest there is;
    }

pub returns : goal.returns
returns c = record {
  counted = c.loop-place.invariant.counted;
  each = λ k x is.
      let under : k < length c.args.standings.now = within-list c.args.standings.now k x is in
      c.loop-place.invariant.done k x (omega arith) is;
}
