-- What a test lets through is no longer than all.
use Rattle.std.proofs.Common.{ℕ, ◌≤◌, Bool, List, length, filter}
use Rattle.std.proofs.lemmas.List.Sums.{length-filter, count_by-le-length}

pub filter_short : {X : Type 0} (p : X → Bool) (xs : List X) → length (filter p xs) ≤ length xs
filter_short p xs = rw (length-filter p xs) (count_by-le-length p xs)
