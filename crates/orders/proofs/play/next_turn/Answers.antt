use Rattle.std.proofs.Common.{◌≡◌, ◌<◌, List, ℕ, length, drop, sym, ◌∙◌, subst}
use Rattle.order_rules.specs.Orders.{Order}
use Rattle.orders.specs.Makers.{IsReadyMaker, ready}
use Rattle.orders.specs.Runs.{next_in, standing}
use Rattle.orders.proofs.Ready.{ready-some}
use Rattle.orders.proofs.Turns.{err-next, maker-ready, named-next, next-ready, ok-next}
use Rattle.orders.proofs.Turns.{stopped-none}
use Rattle.orders.proofs.play.next_turn.Goals as goal

pub name-maker-requires-clause-some : goal.name-maker-requires-clause-some
name-maker-requires-clause-some c =
    let old = c.args.stage.now in
    subst (λ (xs : List ℕ). 0 < length xs) (sym (c.as_slice.ensures.value ∙ c.in-Ok.ensures.ready))
    (ready-some old.script old.run c.requires.some)

pub take_turn-requires-clause-above : goal.take_turn-requires-clause-above
take_turn-requires-clause-above c =
    let old = c.args.stage.now in
    let before = standing (drop c.args.place.now c.args.front.now) c.args.rule.now old.run in
    (maker-ready old.script before c.requires.some c.as_slice.result.now
    (c.as_slice.ensures.value ∙ c.in-Ok.ensures.ready) c.name-maker.result
    (record { left = drop c.name-maker.new.place c.args.front.now; rule = c.name-maker.new.rule })
    c.name-maker.ensures.named).above

pub take_turn-requires-clause-within : goal.take_turn-requires-clause-within
take_turn-requires-clause-within c =
    let old = c.args.stage.now in
    let before = standing (drop c.args.place.now c.args.front.now) c.args.rule.now old.run in
    (maker-ready old.script before c.requires.some c.as_slice.result.now
    (c.as_slice.ensures.value ∙ c.in-Ok.ensures.ready) c.name-maker.result
    (record { left = drop c.name-maker.new.place c.args.front.now; rule = c.name-maker.new.rule })
    c.name-maker.ensures.named).within

pub take_turn-requires-clause-ready : goal.take_turn-requires-clause-ready
take_turn-requires-clause-ready c =
    let old = c.args.stage.now in
    let before = standing (drop c.args.place.now c.args.front.now) c.args.rule.now old.run in
    (maker-ready old.script before c.requires.some c.as_slice.result.now
    (c.as_slice.ensures.value ∙ c.in-Ok.ensures.ready) c.name-maker.result
    (record { left = drop c.name-maker.new.place c.args.front.now; rule = c.name-maker.new.rule })
    c.name-maker.ensures.named).is

pub returns-clause-ok : goal.returns-clause-ok
returns-clause-ok c =
    let old = c.args.stage.now in
    let before = standing (drop c.args.place.now c.args.front.now) c.args.rule.now old.run in
    let after : Order =
    record { left = drop c.name-maker.new.place c.args.front.now; rule = c.name-maker.new.rule } in
    let all : c.as_slice.result.now ≡ ready old.script old.run =
    c.as_slice.ensures.value ∙ c.in-Ok.ensures.ready in
    let is : record { maker = c.name-maker.result; order = after } ≡ next_in old.script before =
    named-next old.script before c.requires.some c.as_slice.result.now all c.name-maker.result after
    c.name-maker.ensures.named in
    let it : IsReadyMaker old.script old.run c.name-maker.result =
    maker-ready old.script before c.requires.some c.as_slice.result.now all c.name-maker.result after
    c.name-maker.ensures.named in
    ok-next c.take_turn.result old.script before after c.name-maker.result
    c.take_turn.new.stage.run is c.requires.running it c.take_turn.ensures.ok

pub returns-clause-err : goal.returns-clause-err
returns-clause-err c =
    let old = c.args.stage.now in
    let before = standing (drop c.args.place.now c.args.front.now) c.args.rule.now old.run in
    let after : Order =
    record { left = drop c.name-maker.new.place c.args.front.now; rule = c.name-maker.new.rule } in
    let all : c.as_slice.result.now ≡ ready old.script old.run =
    c.as_slice.ensures.value ∙ c.in-Ok.ensures.ready in
    let is : record { maker = c.name-maker.result; order = after } ≡ next_in old.script before =
    named-next old.script before c.requires.some c.as_slice.result.now all c.name-maker.result after
    c.name-maker.ensures.named in
    let it : IsReadyMaker old.script old.run c.name-maker.result =
    maker-ready old.script before c.requires.some c.as_slice.result.now all c.name-maker.result after
    c.name-maker.ensures.named in
    err-next c.take_turn.result old.script before after c.name-maker.result
    c.take_turn.new.stage.run is c.requires.running it c.take_turn.ensures.err

pub returns-in_default-clause-err : goal.returns-in_default-clause-err
returns-in_default-clause-err c =
    let old = c.args.stage.now in
    let before = standing (drop c.args.place.now c.args.front.now) c.args.rule.now old.run in
    stopped-none old.script before c.requires.running
    (next-ready old.script before c.requires.some)
