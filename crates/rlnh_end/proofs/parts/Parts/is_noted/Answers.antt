use Rattle.std.proofs.Common.{◌∙◌, ap, sym, is_some}
use Rattle.linx_base.specs.Both.{Both}
use Rattle.rlnh_end.specs.States.{RlnhState, is_noted}
use Rattle.rlnh_end.proofs.ByKind.{noted_first, some_copied}
use Rattle.rlnh_end.proofs.parts.Parts.is_noted.Goals as goal

pub returns : goal.returns
returns c =
    c.is_some.ensures ∙ sym (some_copied c.first.result) ∙ ap is_some c.first.ensures
    ∙ noted_first c.args.name c.self.inside.facts.is
    ∙ ap (λ (b : Both RlnhState). is_noted b.is.tables.noted c.args.name.now) c.self.view_is
