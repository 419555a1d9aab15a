use Rattle.std.proofs.Common.{◌≡◌, ◌≤◌, ◌∙◌, ◌++◌, ◌+◌, Option, OnOk, List, ℕ, [], ap, append-nil, false}
use Rattle.std.proofs.Common.{arith, length, map, option_map, subst, sym, true}
use Rattle.std.proofs.lemmas.List.{length-map}
use Rattle.run_outcomes.specs.Differences.{Apart, apart_at, apart_line, apart_text, are_same}
use Rattle.run_outcomes.proofs.Apart.{first_apart, next_apart, no_apart}
use Rattle.run_outcomes.proofs.differences.write_first.Goals as goal

pub returns-then-not-are_same : goal.returns-then-not-are_same
returns-then-not-are_same c =
    let X : List (List ℕ) = map (λ l. l.now) c.args.one.now in
    let Y : List (List ℕ) = map (λ l. l.now) c.args.other.now in
    let H : Option (List ℕ) = option_map (λ l. l.now) c.line_at-here.result in
    let T : Option (List ℕ) = option_map (λ l. l.now) c.line_at-there.result in
    let n : ℕ = c.lines.place in
    let differ :
    are_same (option_map (λ l. l.now) c.line_at-here.result)
    (option_map (λ l. l.now) c.line_at-there.result) ≡ false =
    sym c.are_same.ensures ∙ c.if-not-are_same.true in
    let first =
    first_apart X Y n c.lines.invariant.same H T c.line_at-here.ensures c.line_at-there.ensures
    differ in
    subst (λ (a : Option Apart). OnOk c.write_apart.result
    (c.write_apart.new.out.items ≡ c.args.out.now.items ++ apart_text c.args.name.now a))
    (sym first)
    (subst (λ (b : List ℕ). OnOk c.write_apart.result
    (c.write_apart.new.out.items
    ≡ b ++ apart_line c.args.name.now (record { place = n + 1; one = H; other = T })))
    c.lines.invariant.unwritten c.write_apart.ensures)

pub lines-preserved : goal.lines-preserved
lines-preserved c =
    let X : List (List ℕ) = map (λ l. l.now) c.args.one.now in
    let Y : List (List ℕ) = map (λ l. l.now) c.args.other.now in
    let H : Option (List ℕ) = option_map (λ l. l.now) c.line_at-here.result in
    let T : Option (List ℕ) = option_map (λ l. l.now) c.line_at-there.result in
    let n : ℕ = c.lines.place in
    let agree :
    are_same (option_map (λ l. l.now) c.line_at-here.result)
    (option_map (λ l. l.now) c.line_at-there.result) ≡ true =
    sym c.are_same.ensures ∙ c.if-not-are_same.false in
    record {
      same = next_apart X Y n c.lines.invariant.same H T c.line_at-here.ensures
          c.line_at-there.ensures agree;
      unwritten = c.lines.invariant.unwritten;
    }

pub returns : goal.returns
returns c =
    let X : List (List ℕ) = map (λ l. l.now) c.args.one.now in
    let Y : List (List ℕ) = map (λ l. l.now) c.args.other.now in
    let n : ℕ = c.lines.place in
    let few : length X ≤ n = simp length-map (omega arith) in
    let some : length Y ≤ n = simp length-map (omega arith) in
    c.lines.invariant.unwritten ∙ sym (append-nil c.args.out.now.items)
    ∙ ap (λ (a : Option Apart). c.args.out.now.items ++ apart_text c.args.name.now a)
    (sym (no_apart X Y n c.lines.invariant.same few some))
