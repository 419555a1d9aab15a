use Rattle.std.proofs.Common.{◌∙◌, ap, option_map, option_copied}
use Rattle.name_table.specs.Naming.{is_endpoint}
use Rattle.keyed_list.proofs.Finding.{same_number, alone, found_first}
use Rattle.name_table.proofs.name_table.NameTable.name_of.Goals as goal

pub returns-in_err-endpoint : goal.returns-in_err-endpoint
returns-in_err-endpoint c =
    ap option_copied c.from_residual.ensures ∙ ap (option_map (λ e. e.name))
    (found_first c.in_err-endpoint.ensures c.self.view_is (is_endpoint c.args.inc)
    (λ e. alone (same_number c.args.inc.0 e.inc.0)))

pub returns : goal.returns
returns c =
    ap (option_map (λ e. e.name)) (found_first c.in_ok-endpoint.ensures c.self.view_is
    (is_endpoint c.args.inc) (λ e. alone (same_number c.args.inc.0 e.inc.0)))
