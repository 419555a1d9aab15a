-- The command line as clap reads it.
use Rattle.std.specs.Prelude.{◌==◌, ℕ, Bool, true, List, codes, slice_index, Option, Some, None}
use Rattle.std.specs.Prelude.{option_and_then}
use Rattle.clap.specs.Words.{App, Rule, new_app, new_rule, with_rule}
use Rattle.clap.specs.Simple.{on_top}
use Rattle.command_words.specs.Requests.{asked_alone, asked_with, asked_with_file}
use Rattle.command_words.specs.Words.{called}
use Rattle.command_words.specs.declared.request.Request.{Request}

-- the text begins with `-` (45)
abbrev pub is_dashed : List ℕ → Bool
is_dashed text = slice_index text 0 == 45

-- the argument of clap that is the word
abbrev pub word_rule : Rule
word_rule = record (new_rule (codes "word")) { required = true }

-- the argument of clap that is the one behind it
abbrev pub argument_rule : Rule
argument_rule = new_rule (codes "argument")

-- the argument of clap that is the file behind that one
abbrev pub file_rule : Rule
file_rule = new_rule (codes "file")

-- the command line that clap reads: no program's name, no flag, and a word, which must be there,
-- with perhaps an argument and a file behind it
abbrev pub three_words : App
three_words = with_rule (with_rule (with_rule (on_top (λ shape. record shape {
  no_binary_name = true;
  disable_help_flag = true;
  disable_version_flag = true;
}) (new_app (codes "linx_sim"))) word_rule) argument_rule) file_rule

-- what a word, an argument and a file ask for, of which each may be missing
abbrev pub request_from : Option (List ℕ) → Option (List ℕ) → Option (List ℕ) → Option Request
request_from None argument file = None
request_from (Some word) None file = option_and_then (λ w. asked_alone w) (called word)
request_from (Some word) (Some argument) None =
    option_and_then (λ w. asked_with w argument) (called word)
request_from (Some word) (Some argument) (Some file) =
    option_and_then (λ w. asked_with_file w argument file) (called word)
