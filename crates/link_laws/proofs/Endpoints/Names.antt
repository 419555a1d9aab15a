-- Names compared byte by byte.
use Rattle.std.proofs.Common.{◌≡◌, ℕ, true, List, refl, bytes_eq}
use Rattle.std.proofs.lemmas.Slice.Eq.{bytes_eq-Decides}

pub bytes_eq-itself : (v : List ℕ) → bytes_eq v v ≡ true
bytes_eq-itself v = (bytes_eq-Decides v v).1 refl

pub bytes_eq-is : (v w : List ℕ) → bytes_eq v w ≡ true → v ≡ w
bytes_eq-is v w is = (bytes_eq-Decides v w).0 is
