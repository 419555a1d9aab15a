use Rattle.rlnh_end.specs.Facts.{is_sought}
use Rattle.rlnh_end.proofs.Entries.{forgot, forgot_is, nothing_found}
use Rattle.std.proofs.Common.{sym}
use Rattle.rlnh_end.proofs.facts.Facts.forget.Goals as goal

pub invariant_of-self-in-Some : goal.invariant_of-self-in-Some
invariant_of-self-in-Some c =
    let found = rw c.deref.ensures.value at c.in-Some.ensures in
    rw c.in_ok-push-in-Some.ensures.items
    (forgot c.self.inside.entries c.self.inside.before c.self.inside.come.items
    c.self.inside.gone.items c.self.inside.next c.self.invariant (is_sought c.args.sought)
    c.in-Some.entry.now found)

pub returns-in_ok-push-in-Some-clause-ok : goal.returns-in_ok-push-in-Some-clause-ok
returns-in_ok-push-in-Some-clause-ok c =
    let found = rw c.deref.ensures.value at c.in-Some.ensures in
    rw (c.in_ok-push-in-Some.ensures.items, ← c.self.view_is)
    (forgot_is c.self.inside.entries c.self.inside.before c.self.inside.come.items
    c.self.inside.gone.items c.self.inside.next c.self.invariant (is_sought c.args.sought)
    c.in-Some.entry.now found)

pub returns-in-None-clause-ok : goal.returns-in-None-clause-ok
returns-in-None-clause-ok c =
    let none = rw c.deref.ensures.value at c.in-None.ensures in
    rw (← c.self.view_is) (sym (nothing_found (is_sought c.args.sought)
    c.self.inside.gone.items c.self.inside.entries none))
