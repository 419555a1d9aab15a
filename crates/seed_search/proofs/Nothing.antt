-- Runs that show nothing, and one run more.
use Rattle.std.proofs.Common.{◌≤◌, ◌<◌, ◌+◌, ℕ, List, None, below_more}
use Rattle.line_search.specs.declared.sought.Sought.{Sought}
use Rattle.seed_search.specs.Searches.{IsShown, ShowNothing}

pub nothing_more : (bytes : List ℕ) (sought : Sought) (wanted : List (List ℕ)) (first seed : ℕ)
    → ShowNothing bytes sought wanted first seed → IsShown bytes sought wanted seed None
    → ShowNothing bytes sought wanted first (seed + 1)
nothing_more bytes sought wanted first seed so_far here = λ k from to.
    below_more (λ (n : ℕ). first ≤ n → IsShown bytes sought wanted n None) seed
    (λ n below above. so_far n above below) (λ above. here) k to from
