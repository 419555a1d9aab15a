use Rattle.std.proofs.Common.{◌≡◌, ℕ, suc, ◌+◌, ◌<◌, length, Some, sym, ◌∙◌, ap, add-one, arith}
use Rattle.std.proofs.Common.{get_or, rules, slice_get, subst}
use Rattle.link_tables.specs.Sides.{HasRoom}
use Rattle.link_check.specs.Lines.{LineSoFar, line_after}
use Rattle.link_check.proofs.Books.{is-get, length-set, pass-more, pass-rest, within}
use Rattle.link_check.proofs.book.pass_all.Goals as goal

pub pass-requires-clause-first : goal.pass-requires-clause-first
pass-requires-clause-first c =
    let less : c.loop-place.place < length c.loop-place.lines = omega arith in
    let before : slice_get c.args.lines.now c.loop-place.place ≡ Some c.index-lines-place.result =
    sym (c.loop-place.invariant.rest c.loop-place.place (omega arith))
    ∙ is-get c.loop-place.lines c.loop-place.place c.index-lines-place.result less
    c.index-lines-place.is in
    let room : HasRoom c.index-lines-place.result.first =
    (c.requires.room c.loop-place.place c.index-lines-place.result before).0 in
    let other : HasRoom (get_or c.loop-place.lines c.loop-place.place
    c.index-lines-place.result).first =
    subst (λ (x : LineSoFar). HasRoom x.first) c.index-lines-place.is room in
    search (rules, room, other)

pub pass-requires-clause-second : goal.pass-requires-clause-second
pass-requires-clause-second c =
    let less : c.loop-place.place < length c.loop-place.lines = omega arith in
    let before : slice_get c.args.lines.now c.loop-place.place ≡ Some c.index-lines-place.result =
    sym (c.loop-place.invariant.rest c.loop-place.place (omega arith))
    ∙ is-get c.loop-place.lines c.loop-place.place c.index-lines-place.result less
    c.index-lines-place.is in
    let room : HasRoom c.index-lines-place.result.second =
    (c.requires.room c.loop-place.place c.index-lines-place.result before).1 in
    let other : HasRoom (get_or c.loop-place.lines c.loop-place.place
    c.index-lines-place.result).second =
    subst (λ (x : LineSoFar). HasRoom x.second) c.index-lines-place.is room in
    search (rules, room, other)

pub loop-place-preserved : goal.loop-place-preserved
loop-place-preserved c =
    let less : c.loop-place.place < length c.loop-place.lines = omega arith in
    let was_is : slice_get c.loop-place.lines c.loop-place.place
    ≡ Some c.index-lines-place.result =
    is-get c.loop-place.lines c.loop-place.place c.index-lines-place.result less
    c.index-lines-place.is in
    let is : c.pass.new.self ≡ line_after (suc c.loop-place.place) c.ends_at-ends.result.now
    c.args.me c.args.step.now c.index-lines-place.result =
    c.in_ok-pass.ensures
    ∙ ap (line_after (c.loop-place.place + 1) c.ends_at-ends.result.now c.args.me c.args.step.now)
    (sym c.index-lines-place.is)
    ∙ ap (λ (k : ℕ). line_after k c.ends_at-ends.result.now c.args.me c.args.step.now
    c.index-lines-place.result) (add-one c.loop-place.place) in
    record {
      counted = length-set c.loop-place.lines c.loop-place.place c.pass.new.self
          ∙ c.loop-place.invariant.counted;
      done = pass-more c.args.lines.now c.loop-place.lines c.args.links.now c.args.me c.args.step.now
          c.loop-place.place c.pass.new.self c.index-lines-place.result
          c.ends_at-ends.result.now less c.loop-place.invariant.done
          c.loop-place.invariant.rest was_is c.ends_at-ends.ensures is;
      rest = pass-rest c.args.lines.now c.loop-place.lines c.args.links.now c.args.me c.args.step.now
          c.loop-place.place c.pass.new.self c.index-lines-place.result
          c.ends_at-ends.result.now less c.loop-place.invariant.done
          c.loop-place.invariant.rest was_is c.ends_at-ends.ensures is;
    }

pub returns : goal.returns
returns c = record {
  counted = c.loop-place.invariant.counted;
  each = λ k x ends is link.
      let under : k < length c.args.lines.now = within c.args.lines.now k x is in
      c.loop-place.invariant.done k x ends (omega arith) is link;
}
