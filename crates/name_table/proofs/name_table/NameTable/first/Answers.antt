use Rattle.std.proofs.Common.{◌∙◌, ap, option_map}
use Rattle.name_table.specs.Naming.{has_name}
use Rattle.keyed_list.proofs.Finding.{same_text, alone, found_first}
use Rattle.name_table.proofs.name_table.NameTable.first.Goals as goal

pub returns-in_err-first : goal.returns-in_err-first
returns-in_err-first c =
    let name = c.args.name.now in
    let none = rw c.of.ensures at c.in_err-first.ensures in
    c.from_residual.ensures ∙ ap (option_map (λ e. e.inc))
    (found_first none c.self.view_is (has_name name) (λ e. alone (same_text name e.name)))

pub returns : goal.returns
returns c =
    let name = c.args.name.now in
    let found = rw c.of.ensures at c.in_ok-first.ensures in
    ap (option_map (λ e. e.inc)) (found_first found c.self.view_is (has_name name)
    (λ e. alone (same_text name e.name)))
