use Rattle.std.proofs.Common.{◌≡◌, drop, map}
use Rattle.script_words.specs.Numbers.{numbers_of}
use Rattle.script_words.proofs.Fronts.{with_front}
use Rattle.script_words.proofs.numbers.numbers.Given as goal

-- the numbers so far and those of the rest are those of all
abbrev pub invariant-loop-word : goal.invariant-loop-word
invariant-loop-word l =
    with_front l.numbers (numbers_of (map (λ w. w.now) (drop l.word-index l.words)))
    ≡ numbers_of (map (λ w. w.now) l.words)
