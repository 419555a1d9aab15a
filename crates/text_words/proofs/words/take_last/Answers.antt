use Rattle.std.proofs.Common.{sym, ◌∙◌}
use Rattle.text_words.proofs.Ends.{none_before, none_last}
use Rattle.text_words.proofs.words.take_last.Goals as goal

pub returns-in-None-clause-before : goal.returns-in-None-clause-before
returns-in-None-clause-before c =
    none_before (λ p. p.now) c.args.parts.now.items c.pop.new.self.items
    (sym c.args.parts.now.ok.0 ∙ c.in-None.ensures.cases.0)
    (sym c.pop.new.self.ok.0 ∙ c.in-None.ensures.cases.1)

pub returns-in-None-clause-last : goal.returns-in-None-clause-last
returns-in-None-clause-last c =
    none_last (λ p. p.now) c.args.parts.now.items
    (sym c.args.parts.now.ok.0 ∙ c.in-None.ensures.cases.0)
