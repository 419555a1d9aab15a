use Rattle.std.proofs.Common.{List, ℕ, ◌++◌, length, ap}
use Rattle.std.proofs.lemmas.List.{drop-replicate}
use Rattle.script_words.proofs.word.padded.Goals as goal

pub returns : goal.returns
returns c =
    let front = c.args.front.now in
    rw c.copy_from_slice.ensures.after
    (ap (λ (zeros : List ℕ). front ++ zeros) (drop-replicate (length front) 64 0))
