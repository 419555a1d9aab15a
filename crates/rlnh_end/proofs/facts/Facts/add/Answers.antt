use Rattle.rlnh_end.proofs.Entries.{added, added_is, added_was}
use Rattle.rlnh_end.proofs.facts.Facts.add.Goals as goal

pub invariant_of-self-in-Ok : goal.invariant_of-self-in-Ok
invariant_of-self-in-Ok c =
    rw (c.in-Ok.ensures.ok, c.push_reserved.ensures.items, c.in_ok-reserve.ensures.items)
    (added c.self.inside.entries c.self.inside.before c.self.inside.come.items
    c.self.inside.gone.items c.self.inside.next c.self.invariant c.args.fact)

pub returns-in-Ok-clause-ok : goal.returns-in-Ok-clause-ok
returns-in-Ok-clause-ok c =
    rw (c.in-Ok.ensures.ok, ← c.self.view_is)
    (added_is c.self.inside.entries c.self.inside.before c.self.inside.come.items
    c.self.inside.gone.items c.self.inside.next c.self.invariant c.args.fact)

pub returns-in-Ok-clause-was : goal.returns-in-Ok-clause-was
returns-in-Ok-clause-was c =
    rw (
      c.in-Ok.ensures.ok,
      c.push_reserved.ensures.items,
      c.in_ok-reserve.ensures.items,
      ← c.self.view_is,
    )
    (added_was c.self.inside.entries c.self.inside.before c.self.inside.come.items
    c.self.inside.gone.items c.self.inside.next c.self.invariant c.args.fact)
