use Rattle.std.specs.Prelude.{ℕ, Option, Some, None, Result, Ok, List}
use Rattle.script_words.specs.declared.fault.Fault.{Fault}
use Rattle.script_words.specs.declared.route.Route.{Route}
use Rattle.script_words.specs.declared.route.Route.TheVariants.{Local, Over}
use Rattle.script_words.specs.Gives.{◌>>=◌, made}
use Rattle.script_words.specs.Words.{cut_at}
use Rattle.script_words.specs.Names.{name_in, name_of}

-- a name, or a link and a name behind a slash
abbrev pub route_in : List ℕ → Option (List ℕ × List ℕ) → Result Route Fault
route_in word None = made Local (name_of word)
route_in word (Some parts) = do
  link ← name_in word parts.0
  name ← name_in word parts.1
  Ok (Over link name)

-- the path that a word spells
unfoldable pub route_of : List ℕ → Result Route Fault
route_of word = route_in word (cut_at 47 word)
