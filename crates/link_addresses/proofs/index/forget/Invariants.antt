use Rattle.std.proofs.Common.{nat_eq}
use Rattle.std.specs.HashMap.{get}
use Rattle.link_addresses.specs.Finding.{IsIndexOf}
use Rattle.link_addresses.proofs.index.forget.Given as goal

abbrev pub invariant-loop-change : goal.invariant-loop-change
invariant-loop-change l = IsIndexOf (get nat_eq l.index) l.meanings
