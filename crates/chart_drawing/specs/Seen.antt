-- Which columns a part of a chart has: those in which one of the marks stands that are seen.
use Rattle.std.specs.Prelude.{ℕ, ◌==◌, Bool, false, ◌&&◌, ◌||◌, List, filter, if◌then◌else◌}
use Rattle.std.specs.List.{list_any}
use Rattle.chart.specs.declared.column.Column.{Column}
use Rattle.chart.specs.declared.column.Column.TheVariants.{Lane, Rail}
use Rattle.chart.specs.declared.mark.Mark.{Mark}
use Rattle.chart.specs.declared.mark.MarkKind.{MarkKind}
use Rattle.chart.specs.declared.mark.MarkKind.TheVariants.{Cut, Mend}
use Rattle.chart_drawing.specs.declared.setting.DrawnNode.{DrawnNode}
use Rattle.chart_drawing.specs.declared.setting.DrawnLink.{DrawnLink}
use Rattle.chart_drawing.specs.declared.setting.DrawnActor.{DrawnActor}
use Rattle.chart_drawing.specs.declared.setting.Setting.{Setting}
use Rattle.chart_drawing.specs.declared.view.View.{View}
use Rattle.chart_drawing.specs.Views.{is_seen, is_part, on_life}

-- a column is the lane of this link, or a rail of it
abbrev pub on_link : ℕ → Column → Bool
on_link link (Lane on side) = on.0 == link
on_link link (Rail on node) = on.0 == link
on_link link _ = false

-- a mark cuts or mends this link
abbrev pub does_to : ℕ → MarkKind → Bool
does_to link (Cut on) = on.0 == link
does_to link (Mend on) = on.0 == link
does_to link _ = false

-- a mark stands in the lane of this link or on a rail of it, or cuts or mends it
abbrev pub is_of_link : ℕ → Mark → Bool
is_of_link link m = on_link link m.column || does_to link m.kind

-- a mark that is seen stands on this actor's line
abbrev pub has_actor : View → List Mark → ℕ → Bool
has_actor view marks actor =
    list_any (λ (m : Mark). is_seen view m && on_life actor m.column) marks

-- a mark that is seen is of this link
abbrev pub has_link : View → List Mark → ℕ → Bool
has_link view marks link =
    list_any (λ (m : Mark). is_seen view m && is_of_link link m) marks

-- one of the actors is on this node
abbrev pub is_on_node : List DrawnActor → ℕ → Bool
is_on_node actors node = list_any (λ (a : DrawnActor). a.node.0 == node) actors

-- one of the links ends at this node
abbrev pub ends_at : List DrawnLink → ℕ → Bool
ends_at links node = list_any (λ (l : DrawnLink). l.first.0 == node || l.second.0 == node) links

-- an actor is on this node, or a link ends there
abbrev pub has_node : List DrawnActor → List DrawnLink → ℕ → Bool
has_node actors links node = is_on_node actors node || ends_at links node

-- a column is the line of one of the actors
abbrev pub is_on_line : List DrawnActor → Column → Bool
is_on_line actors column = list_any (λ (a : DrawnActor). on_life a.actor column) actors

-- a mark is of one of the links
abbrev pub is_of_one : List DrawnLink → Mark → Bool
is_of_one links m = list_any (λ (l : DrawnLink). is_of_link l.link.0 m) links

-- a mark stands in a column of this setting, or cuts or mends one of its links
abbrev pub stands_in : Setting → Mark → Bool
stands_in setting m = is_on_line setting.actors m.column || is_of_one setting.links m

-- the actors of a view
abbrev pub actors_in : View → List Mark → List DrawnActor → List DrawnActor
actors_in view marks actors =
    filter (λ (a : DrawnActor). has_actor view marks a.actor) actors

-- the links of a view
abbrev pub links_in : View → List Mark → List DrawnLink → List DrawnLink
links_in view marks links = filter (λ (l : DrawnLink). has_link view marks l.link.0) links

-- the nodes of these actors and links
abbrev pub nodes_of : List DrawnActor → List DrawnLink → List DrawnNode → List DrawnNode
nodes_of actors links nodes =
    filter (λ (n : DrawnNode). has_node actors links n.node.0) nodes

-- WHAT A VIEW IS LAID OUT ON: where it leaves out steps or makers, the actors and links of its marks,
-- and their nodes; else all of the setting
abbrev pub setting_in : List Mark → Setting → Setting
setting_in marks setting =
    if is_part setting.view
    then record setting {
      nodes =
          nodes_of (actors_in setting.view marks setting.actors)
          (links_in setting.view marks setting.links) setting.nodes;
      links = links_in setting.view marks setting.links;
      actors = actors_in setting.view marks setting.actors;
    }
    else setting
