-- Bytes written in several calls, one after another.
use Rattle.std.proofs.Common.{◌≡◌, ℕ, ◌+◌, ◌-◌, List, ◌++◌, length, take, drop, Option}
use Rattle.std.proofs.Common.{sym, ap, ◌∙◌, subst, length-drop}
use Rattle.std.proofs.Math.Seq.{take-add, take-length}
use Rattle.std.specs.Io.KnownBytes.{Appends}
use Rattle.std.proofs.KnownBytes.{Appends-trans}

-- the slice from an index on
abbrev pub behind : List ℕ → ℕ → List ℕ
behind bytes done = take (length bytes - done) (drop done bytes)

-- it is what is left behind the first bytes
pub rest-drop : (bytes : List ℕ) (done : ℕ) → behind bytes done ≡ drop done bytes
rest-drop bytes done =
    ap (λ count. take count (drop done bytes)) (sym (length-drop done bytes))
    ∙ take-length (drop done bytes)

-- the first bytes, and then first bytes of the slice behind them
pub Appends-rest : (old mid new : Option (List ℕ)) (bytes : List ℕ) (done count : ℕ)
    → Appends old mid (take done bytes) → Appends mid new (take count (behind bytes done))
    → Appends old new (take (done + count) bytes)
Appends-rest old mid new bytes done count before after =
    let whole : take done bytes ++ take count (behind bytes done) ≡ take (done + count) bytes =
    ap (λ rest. take done bytes ++ take count rest) (rest-drop bytes done)
    ∙ sym (take-add done count bytes)
    in
    subst (Appends old new) whole (Appends-trans old mid new _ _ before after)
