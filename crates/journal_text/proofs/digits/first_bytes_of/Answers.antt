use Rattle.std.proofs.Common.{◌≡◌, ◌≤◌, List, ℕ, length, take, sym, arith}
use Rattle.std.proofs.lemmas.List.{length-take-le}
use Rattle.journal_text.proofs.digits.first_bytes_of.Goals as goal

first_32 : (bytes : List ℕ) → 32 ≤ length bytes → length (take 32 bytes) ≡ 32
first_32 bytes long = length-take-le 32 bytes long

pub slice_bounds-first-end : goal.slice_bounds-first-end
slice_bounds-first-end c =
    let long = c.requires in
    sym (first_32 c.args.bytes.now (omega (arith, long)))

pub returns-clause-length : goal.returns-clause-length
returns-clause-length c =
    let long = c.requires in
    let size = first_32 c.args.bytes.now (omega (arith, long)) in
    omega (arith, size)
