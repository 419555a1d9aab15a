use Rattle.std.proofs.Common.{◌∙◌, sym, ap, add-one, ℕ}
use Rattle.order_rules.specs.Seeds.{changes}
use Rattle.order_rules.proofs.Thrown.{changes_none, changes_on}
use Rattle.order_rules.proofs.seed.changes.Goals as goal

pub places-init : goal.places-init
places-init c = sym (changes_none c.args.span c.args.dice.now)

pub places-preserved : goal.places-preserved
places-preserved c =
    changes_on c.args.span c.places.place c.args.dice.now c.places.table c.places.dice
    c.below.result c.below.new.dice c.places.invariant c.below.ensures.value
    ∙ ap (λ (n : ℕ). changes c.args.span n c.args.dice.now) (sym (add-one c.places.place))
