use Rattle.std.proofs.Common.{◌≡◌, drop}
use Rattle.command_words.specs.Words.{named}
use Rattle.command_words.proofs.word.named_in.Given as goal

-- none so far has the name
abbrev pub invariant-loop-word : goal.invariant-loop-word
invariant-loop-word l = named l.text (drop l.word-index l.words) ≡ named l.text l.words
