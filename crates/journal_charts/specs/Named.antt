-- What stands side by side where the script of a run is known: its nodes, its links between them, and
-- its actors by their names.
use Rattle.std.specs.Prelude.{ℕ, ◌-◌, List, [], ◌∷◌, flat_map, slice_get, codes, if◌then◌else◌}
use Rattle.std.specs.Prelude.{Option, Some, None, Result, Ok, Err}
use Rattle.std.specs.Str.{bytes_eq}
use Rattle.linx_base.specs.declared.frame.LinkDecl.{LinkDecl}
use Rattle.linx_base.specs.declared.identity.LinkNo.{LinkNo}
use Rattle.script_words.specs.Lines.{lines_of, words_in}
use Rattle.script_words.specs.declared.fault.Fault.{Fault}
use Rattle.script_lang.specs.Parts.{ScriptParts}
use Rattle.script_lang.specs.declared.actor_script.ActorScript.{ActorScript}
use Rattle.chart_drawing.specs.declared.setting.DrawnLink.{DrawnLink}
use Rattle.chart_drawing.specs.declared.setting.DrawnActor.{DrawnActor}
use Rattle.chart_drawing.specs.declared.setting.Setting.{Setting}
use Rattle.chart_drawing.specs.declared.view.View.{View}
use Rattle.journal_charts.specs.Actors.{numbered_name}
use Rattle.journal_charts.specs.Setting.{next_number, nodes_from}

-- the name that words give an actor: that behind the word `actor`
abbrev pub name_in_words : List (List ℕ) → List (List ℕ)
name_in_words [] = []
name_in_words (first ∷ []) = []
name_in_words (first ∷ name ∷ words) =
    if bytes_eq first (codes "actor") then name ∷ [] else []

-- the name that a line gives an actor, where it is one of a script
abbrev pub name_if_words : Result (List (List ℕ)) Fault → List (List ℕ)
name_if_words (Ok words) = name_in_words words
name_if_words (Err fault) = []

-- the name that a line gives an actor
abbrev pub name_in_line : List ℕ → List (List ℕ)
name_in_line line = name_if_words (words_in line)

-- THE NAMES OF THE ACTORS of a script, in the order of its lines
abbrev pub actor_names : List ℕ → List (List ℕ)
actor_names bytes = flat_map name_in_line (lines_of bytes)

-- a name, no name where there is none
abbrev pub name_if : Option (List ℕ) → List ℕ
name_if None = []
name_if (Some name) = name

-- the name of the actor of this number
abbrev pub name_of : List (List ℕ) → ℕ → List ℕ
name_of names number = name_if (slice_get names (number - 1))

-- an actor of a script by its name, and by its number below that
abbrev pub named_actor : List (List ℕ) → ℕ → ActorScript → DrawnActor
named_actor names number a = record {
  actor = number;
  node = a.node;
  caption = name_of names number;
  subcaption = numbered_name number;
}

-- the actors of a script from this number on, by these names
abbrev pub named_actors : List (List ℕ) → ℕ → List ActorScript → List DrawnActor
named_actors names number [] = []
named_actors names number (a ∷ more) =
    named_actor names number a ∷ named_actors names (next_number number) more

-- a link of a script by its name, between its nodes
abbrev pub named_link : List (List ℕ) → ℕ → LinkDecl → DrawnLink
named_link names number decl = record {
  link = record { 0 = number };
  name = name_of names number;
  first = decl.first;
  second = decl.second;
}

-- the links of a script from this number on, by these names
abbrev pub named_links : List (List ℕ) → ℕ → List LinkDecl → List DrawnLink
named_links names number [] = []
named_links names number (decl ∷ more) =
    named_link names number decl ∷ named_links names (next_number number) more

-- WHAT A RUN OF A SCRIPT IS LAID OUT ON, which these bytes spell, for this view: all of its nodes,
-- links and actors
abbrev pub named_setting : List ℕ → ScriptParts → View → Setting
named_setting bytes script view = record {
  view = view;
  nodes = nodes_from 1 script.names.nodes;
  links = named_links script.names.links 1 script.links;
  actors = named_actors (actor_names bytes) 1 script.actors;
}
