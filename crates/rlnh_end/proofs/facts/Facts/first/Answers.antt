use Rattle.std.proofs.Common.{◌∙◌, ap, sym, filter, option_map}
use Rattle.rlnh_end.specs.Facts.{has_none, is_sought}
use Rattle.rlnh_end.proofs.Entries.{first_fact}
use Rattle.rlnh_end.proofs.facts.Facts.first.Goals as goal

pub returns-in_err-entry : goal.returns-in_err-entry
returns-in_err-entry c =
    let none = rw c.deref.ensures.value at c.in_err-entry.ensures in
    rw (c.from_residual.ensures, ← c.self.view_is) (ap (option_map (λ e. e.fact)) none
    ∙ sym (first_fact (is_sought c.args.sought)
    (filter (has_none c.self.inside.gone.items) c.self.inside.entries)))

pub returns : goal.returns
returns c =
    let found = rw c.deref.ensures.value at c.in_ok-entry.ensures in
    rw (← c.self.view_is) (ap (option_map (λ e. e.fact)) found
    ∙ sym (first_fact (is_sought c.args.sought)
    (filter (has_none c.self.inside.gone.items) c.self.inside.entries)))
