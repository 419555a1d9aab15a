use Rattle.std.proofs.Common.{◌≡◌, ℕ, true, sym, subst}
use Rattle.order_rules.specs.Rules.{is_among}
use Rattle.order_rules.specs.declared.rule.Rule.{Rule}
use Rattle.order_rules.proofs.Among.{rule-among}
use Rattle.order_rules.proofs.rule.Rule.choose.Goals as goal

pub returns-clause-among : goal.returns-clause-among
returns-clause-among c =
    subst (λ (x : ℕ × Rule). is_among x.0 c.args.ready.now ≡ true) (sym c.next.ensures)
    (rule-among c.args.self.now c.args.ready.now c.requires.some)
