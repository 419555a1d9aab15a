use Rattle.std.proofs.Common.{ap, filter}
use Rattle.linx_base.specs.Both.{still}
use Rattle.rlnh_end.specs.Facts.{began_with, has_none}
use Rattle.rlnh_end.proofs.Entries.{undone, without_none}
use Rattle.rlnh_end.proofs.facts.Facts.undo.Goals as goal

pub invariant_of-self : goal.invariant_of-self
invariant_of-self c =
    rw (
      c.clear.ensures.items,
      c.clear-2.ensures.items,
      c.take.ensures.after,
      c.drop_numbers.ensures,
      c.deref.ensures.value,
      c.began_with.ensures,
      c.take.ensures.value,
      c.replace-entries.ensures.value,
    )
    (undone c.self.inside.entries c.self.inside.before c.self.inside.come.items
    c.self.inside.gone.items c.self.inside.next c.self.invariant)

pub returns : goal.returns
returns c =
    rw (
      c.clear.ensures.items,
      c.clear-2.ensures.items,
      c.take.ensures.after,
      c.drop_numbers.ensures,
      c.deref.ensures.value,
      c.began_with.ensures,
      c.take.ensures.value,
      c.replace-entries.ensures.value,
      ← c.self.view_is,
    )
    (ap still (without_none (filter (has_none c.self.inside.come.items)
    (began_with c.self.inside.before c.self.inside.entries))))
