use Rattle.std.proofs.Common.{◌∙◌, sym, ap, add-one, ℕ}
use Rattle.order_rules.specs.Dice.{words}
use Rattle.order_rules.proofs.Thrown.{words_none, words_on}
use Rattle.order_rules.proofs.dice.words.Goals as goal

pub places-init : goal.places-init
places-init c = sym (words_none c.args.dice.now)

pub places-preserved : goal.places-preserved
places-preserved c =
    words_on c.places.place c.args.dice.now c.places.table c.places.dice c.word.result
    c.word.new.dice c.places.invariant c.word.ensures
    ∙ ap (λ (n : ℕ). words n c.args.dice.now) (sym (add-one c.places.place))
