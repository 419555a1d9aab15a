-- names of nodes and links as their numbers
use Rattle.std.specs.Prelude.{ℕ, ◌+◌, Option, Some, None, Result, Ok, Err, List, position}
use Rattle.std.specs.Str.{bytes_eq}
use Rattle.linx_base.specs.declared.identity.LinkNo.{LinkNo}
use Rattle.linx_base.specs.declared.identity.NodeNo.{NodeNo}
use Rattle.script_words.specs.declared.fault.Fault.{Fault}
use Rattle.script_words.specs.declared.bad_kind.BadKind.TheVariants.{UnknownName}
use Rattle.script_words.specs.Faults.{bad}
use Rattle.script_words.specs.Gives.{◌>>=◌}
use Rattle.script_lang.specs.Parts.{ScriptParts}

-- no node or link has this name here
abbrev pub unknown_name : List ℕ → Fault
unknown_name name = bad UnknownName name

-- the number, from 1, of what stands in a place, of this name
abbrev pub numbered : List ℕ → Option ℕ → Result ℕ Fault
numbered name None = Err (unknown_name name)
numbered name (Some place) = Ok (place + 1)

-- the number of a name among those
abbrev pub number_among : List (List ℕ) → List ℕ → Result ℕ Fault
number_among names name = numbered name (position (λ other. bytes_eq other name) names)

-- the declared node of this name
abbrev pub node_named : ScriptParts → List ℕ → Result NodeNo Fault
node_named s name = do
  number ← number_among s.names.nodes name
  Ok (record { 0 = number })

-- the declared link of this name
abbrev pub link_named : ScriptParts → List ℕ → Result LinkNo Fault
link_named s name = do
  number ← number_among s.names.links name
  Ok (record { 0 = number })
