use Rattle.std.proofs.Common.{ℕ, ◌<◌, Option, Some, None, List, length, drop, sym, subst, arith}
use Rattle.std.proofs.lemmas.Option.{same_Some}
use Rattle.fragmenter.specs.declared.joiner.Progress.{Progress}
use Rattle.fragmenter.specs.Joining.{Begun, LacksBytes}
use Rattle.fragmenter.specs.Holding.{Counts, begun_in}
use Rattle.fragmenter.proofs.joiner.Joiner.is_inside.Goals as goal

-- what is counted lacks bytes
counts_lack : (begun : Option Progress) (parts : List (List ℕ)) → Counts begun parts
    → LacksBytes (begun_in begun parts)
counts_lack None parts k = λ b e. absurd cc
counts_lack (Some p) parts k = λ b e.
    subst (λ (x : Begun). length x.bytes < x.size) (same_Some _ _ e) (omega arith)

pub returns-clause-lacks : goal.returns-clause-lacks
returns-clause-lacks c =
    rw (← c.self.view_is) (counts_lack c.self.inside.is
    (drop c.self.inside.start c.self.inside.parts.items) c.self.invariant.3)
