-- What is wrong with words that ask for nothing.
use Rattle.std.specs.Prelude.{ℕ, List, [], ◌∷◌, map, String, string_bytes, Option, Some, None}
use Rattle.command_words.specs.Nearest.{nearest_of}
use Rattle.command_words.specs.Words.{called}
use Rattle.command_words.specs.declared.misuse.Misuse.{Misuse}
use Rattle.command_words.specs.declared.misuse.Misuse.TheVariants.{Wordless, Unknown, Arguments}
use Rattle.command_words.specs.declared.word.Word.{Word}
use Rattle.command_words.specs.declared.word.Word.TheVariants.{Help}

-- what is wrong with a topic of the help, which is this word
abbrev pub topic_misuse_by : Option Word → List ℕ → Misuse
topic_misuse_by (Some word) topic = Arguments Help
topic_misuse_by None topic = Unknown 1 (nearest_of topic)

-- what is wrong with the word of which help is asked
abbrev pub topic_misuse : List ℕ → Misuse
topic_misuse topic = topic_misuse_by (called topic) topic

-- what is wrong with the arguments of a word
abbrev pub argument_misuse : Word → List (List ℕ) → Misuse
argument_misuse Help (topic ∷ []) = topic_misuse topic
argument_misuse word _ = Arguments word

-- what is wrong with a text, which is this word, and those behind it
abbrev pub misuse_from : Option Word → List ℕ → List (List ℕ) → Misuse
misuse_from None first rest = Unknown 0 (nearest_of first)
misuse_from (Some word) first rest = argument_misuse word rest

-- what is wrong with these texts
abbrev pub misuse_by : List (List ℕ) → Misuse
misuse_by [] = Wordless
misuse_by (first ∷ rest) = misuse_from (called first) first rest

-- WHAT IS WRONG WITH WORDS that ask for nothing
abbrev pub misuse_of : {Z : Type 0} → List (String Z) → Misuse
misuse_of words = misuse_by (map string_bytes words)
