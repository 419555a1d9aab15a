use Rattle.std.proofs.Common.{refl, sym, ◌∙◌}
use Rattle.stage.specs.Settlings.{leaves_cut, settles_whole}
use Rattle.stage.proofs.acting.go_on.Goals as goal

pub returns-then-is_cut-clause-ok : goal.returns-then-is_cut-clause-ok
returns-then-is_cut-clause-ok c =
    leaves_cut c.in-Some.link c.in-Some.is (sym c.is_cut.ensures ∙ c.if-is_cut.true) refl

pub returns-clause-ok : goal.returns-clause-ok
returns-clause-ok c =
    settles_whole c.in-Some.link c.in-Some.is (sym c.is_cut.ensures ∙ c.if-is_cut.false)
    c.in_ok-settle.field-0 c.in_ok-settle.ensures.ok
