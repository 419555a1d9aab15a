use Rattle.link_addresses.specs.Finding.{NoneFree}
use Rattle.link_addresses.proofs.groups.free_from.Given as goal

-- none of the places so far is free
abbrev pub invariant-loop-place : goal.invariant-loop-place
invariant-loop-place l = NoneFree l.meanings l.from l.place
