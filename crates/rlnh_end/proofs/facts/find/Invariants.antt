use Rattle.std.proofs.Common.{◌≡◌, ◌-◌, ◌≤◌, length, drop, filter}
use Rattle.linx_base.specs.FirstMatch.{first_match}
use Rattle.rlnh_end.specs.Facts.{has_none, is_sought_entry}
use Rattle.rlnh_end.proofs.facts.find.Given as goal

-- none of the entries so far is left
abbrev pub invariant-loop-entry : goal.invariant-loop-entry
invariant-loop-entry l =
    (l.k ≤ length (filter (is_sought_entry l.sought) l.entries))
    × (first_match (has_none l.gone) (drop l.k (filter (is_sought_entry l.sought) l.entries))
    ≡ first_match (has_none l.gone) (filter (is_sought_entry l.sought) l.entries))

abbrev pub decreases-loop-entry : goal.decreases-loop-entry
decreases-loop-entry l = length (filter (is_sought_entry l.sought) l.entries) - l.k
