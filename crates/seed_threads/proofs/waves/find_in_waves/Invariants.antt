use Rattle.std.proofs.Common.{◌≡◌, ℕ, ◌+◌, ◌≤◌, map, string_bytes}
use Rattle.seed_search.specs.Searches.{ShowNothing}
use Rattle.seed_threads.proofs.waves.find_in_waves.Given as goal

-- what is left of the range, behind seeds whose runs show nothing
pub record Stands (first more from left size : ℕ) : Type 0 where
  pub low : first ≤ from
  pub same : from + left ≡ first + more
  pub some : 1 ≤ size
  pub few : size ≤ 4096

abbrev pub invariant-waves : goal.invariant-waves
invariant-waves g l =
    Stands l.first l.more l.from l.left l.size
    × ShowNothing l.bytes l.sought (map string_bytes l.wanted) l.first l.from

abbrev pub decreases-waves : goal.decreases-waves
decreases-waves g l = l.left
