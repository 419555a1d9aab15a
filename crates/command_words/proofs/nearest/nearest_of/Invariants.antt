use Rattle.std.proofs.Common.{◌≡◌, drop, None}
use Rattle.command_words.specs.Nearest.{nearest_from}
use Rattle.command_words.proofs.nearest.nearest_of.Given as goal

-- the best so far, and what the rest gives, give the best of all
abbrev pub invariant-loop-word : goal.invariant-loop-word
invariant-loop-word l =
    nearest_from l.best l.limit l.text (drop l.word-index l.words)
    ≡ nearest_from None 3 l.text l.words
