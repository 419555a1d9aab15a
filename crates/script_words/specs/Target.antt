use Rattle.std.specs.Prelude.{ℕ, Result, Ok, List, codes, if◌then◌else◌}
use Rattle.std.specs.Str.{bytes_eq}
use Rattle.script_words.specs.declared.fault.Fault.{Fault}
use Rattle.script_words.specs.declared.target.Target.{Target}
use Rattle.script_words.specs.declared.target.Target.TheVariants.{Me, Last, Kept}
use Rattle.script_words.specs.Gives.{made}
use Rattle.script_words.specs.Names.{name_of}

-- whom a word names
unfoldable pub target_of : List ℕ → Result Target Fault
target_of word =
    if bytes_eq word (codes "self") then Ok Me
    else if bytes_eq word (codes "last") then Ok Last
    else made Kept (name_of word)
