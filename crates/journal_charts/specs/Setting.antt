-- What stands side by side in the chart of a journal.
use Rattle.std.specs.Prelude.{ℕ, ◌+◌, ◌==◌, min, Bool, List, [], ◌∷◌, ◌++◌, codes, if◌then◌else◌}
use Rattle.std.specs.List.{list_any}
use Rattle.linx_base.specs.declared.identity.LinkNo.{LinkNo}
use Rattle.linx_base.specs.declared.name.Names.{Names}
use Rattle.journal.specs.declared.effect.Step.{Step}
use Rattle.chart_drawing.specs.declared.setting.DrawnNode.{DrawnNode}
use Rattle.chart_drawing.specs.declared.setting.DrawnLink.{DrawnLink}
use Rattle.chart_drawing.specs.declared.setting.DrawnActor.{DrawnActor}
use Rattle.chart_drawing.specs.declared.setting.Setting.{Setting}
use Rattle.chart_drawing.specs.declared.view.View.{View}
use Rattle.journal_charts.specs.Ends.{first_end, second_end, rightmost}
use Rattle.journal_charts.specs.Actors.{actors_of}

-- the number behind this one, up to the highest
abbrev pub next_number : ℕ → ℕ
next_number number = min (number + 1) 4294967295

-- the nodes of these names, from this number on
abbrev pub nodes_from : ℕ → List (List ℕ) → List DrawnNode
nodes_from number [] = []
nodes_from number (name ∷ names) =
    record { node = record { 0 = number }; name = name } ∷ nodes_from (next_number number) names

-- a link of this name, between the nodes that the steps tell
abbrev pub drawn_link : List Step → LinkNo → List ℕ → DrawnLink
drawn_link S link name = record {
  link = link;
  name = name;
  first = first_end S link;
  second = second_end S link;
}

-- the links of these names, from this number on
abbrev pub links_from : List Step → ℕ → List (List ℕ) → List DrawnLink
links_from S number [] = []
links_from S number (name ∷ names) =
    drawn_link S (record { 0 = number }) name ∷ links_from S (next_number number) names

-- an actor has no node: it never opened an endpoint
abbrev pub has_stray : List DrawnActor → Bool
has_stray actors = list_any (λ (a : DrawnActor). a.node.0 == rightmost) actors

-- the nodes of these names, and behind them one for the actors that have none
abbrev pub nodes_with : List (List ℕ) → List DrawnActor → List DrawnNode
nodes_with names actors =
    if has_stray actors
    then nodes_from 1 names ++ record { node = record { 0 = rightmost }; name = codes "?" } ∷ []
    else nodes_from 1 names

-- WHAT A JOURNAL IS LAID OUT ON that comes without a script, for this view: the nodes and links of these names, and the actors of
-- these steps
abbrev pub setting_of : Names → List Step → View → Setting
setting_of names S view = record {
  view = view;
  nodes = nodes_with names.nodes (actors_of S);
  links = links_from S 1 names.links;
  actors = actors_of S;
}
