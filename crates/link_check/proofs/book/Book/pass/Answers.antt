use Rattle.std.proofs.Common.{◌<◌, List, length, subst, sym, ◌∙◌, ap}
use Rattle.linx_base.specs.declared.frame.LinkDecl.{LinkDecl}
use Rattle.link_check.specs.Books.{HaveRoom, TakesStep}
use Rattle.link_check.specs.Lines.{LineSoFar}
use Rattle.link_check.proofs.book.Book.pass.Goals as goal

pub pass_all-requires-clause-counted : goal.pass_all-requires-clause-counted
pass_all-requires-clause-counted c =
    ap (λ (xs : List LineSoFar). length xs) c.deref_mut.ensures.value
    ∙ (subst TakesStep (sym c.self.view_is) c.requires.takes).counted
    ∙ sym (ap (λ (xs : List LinkDecl). length xs) c.deref.ensures.value)

pub pass_all-requires-clause-few : goal.pass_all-requires-clause-few
pass_all-requires-clause-few c =
    subst (λ (xs : List LineSoFar). length xs < 4294967295) (sym c.deref_mut.ensures.value)
    (subst TakesStep (sym c.self.view_is) c.requires.takes).few

pub pass_all-requires-clause-room : goal.pass_all-requires-clause-room
pass_all-requires-clause-room c =
    subst HaveRoom (sym c.deref_mut.ensures.value)
    (subst TakesStep (sym c.self.view_is) c.requires.takes).room
