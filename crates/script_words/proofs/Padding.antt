-- bytes in an array with zeros behind them, and bytes as they are shown
use Rattle.std.proofs.Common.{◌≡◌, ℕ, ◌+◌, ◌-◌, ◌<◌, ◌≤◌, List, [], ◌∷◌, ◌++◌, length, get_or, take}
use Rattle.std.proofs.Common.{drop, replicate, sym, ◌∙◌, ap, arith, length-append, length-take-le}
use Rattle.std.proofs.Math.Seq.{take-append_seam, drop-append_seam}
use Rattle.std.proofs.lemmas.List.{length-map, length-replicate, map_push, take_more}
use Rattle.script_words.specs.Failures.{shown, shown_byte}

-- so many zeros behind some bytes
abbrev zeros : List ℕ → List ℕ
zeros front = replicate (64 - length front) 0

pub length-padded : (front : List ℕ) → length front ≤ 64
    → length (front ++ replicate (64 - length front) 0) ≡ 64
length-padded front few =
    omega (arith, few, length-append front (zeros front), length-replicate {A = ℕ} (64 - length front) 0)

pub take-padded : (front : List ℕ)
    → take (length front) (front ++ replicate (64 - length front) 0) ≡ front
take-padded front = take-append_seam front (zeros front)

pub drop-padded : (front : List ℕ)
    → drop (length front) (front ++ replicate (64 - length front) 0)
    ≡ replicate (64 - length front) 0
drop-padded front = drop-append_seam front (zeros front)

-- an array of bytes and zeros
pub ruleset padding = (length-padded, take-padded, drop-padded, length-take-le)

-- so many bytes are shown as so many
pub length-shown : (bytes : List ℕ) (k : ℕ) → k ≤ length bytes → length (shown (take k bytes)) ≡ k
length-shown bytes k within = length-map (take k bytes) shown_byte ∙ length-take-le k bytes within

-- one byte more that is shown
pub shown_more : (bytes : List ℕ) (k d : ℕ) → k < length bytes
    → shown (take (k + 1) bytes) ≡ shown (take k bytes) ++ shown_byte (get_or bytes k d) ∷ []
shown_more bytes k d within =
    ap (λ (bs : List ℕ). shown bs) (take_more bytes k d within)
    ∙ map_push shown_byte (take k bytes) (get_or bytes k d)
