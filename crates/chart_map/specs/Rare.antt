-- The lines of a run that are rare.
use Rattle.std.specs.Prelude.{ℕ, ◌+◌, ◌==◌, Bool, true, false, not, ◌&&◌, ◌||◌, List, [], ◌∷◌, ◌++◌}
use Rattle.std.specs.Prelude.{if◌then◌else◌}
use Rattle.std.specs.List.{list_any}
use Rattle.journal.specs.declared.head.SentTo.TheVariants.{Dead}
use Rattle.chart.specs.declared.column.Column.{Column}
use Rattle.chart.specs.declared.column.Column.TheVariants.{Rail}
use Rattle.chart.specs.declared.mark.Mark.{Mark}
use Rattle.chart.specs.declared.mark.MarkKind.{MarkKind}
use Rattle.chart.specs.declared.mark.MarkKind.TheVariants as kinds
use Rattle.chart_map.specs.declared.rare.Rare.{Rare}

-- WHICH LINES ARE RARE, whatever stands before them: a send to a dead peer, a receive that found
-- nothing, what an actor does to a link or a node, a refusal, a notification, the loss of a session
abbrev pub is_rare_kind : MarkKind → Bool
is_rare_kind (kinds.Send Dead) = true
is_rare_kind kinds.TakeNone = true
is_rare_kind (kinds.Cut link) = true
is_rare_kind (kinds.Mend link) = true
is_rare_kind kinds.Settle = true
is_rare_kind (kinds.Restart node) = true
is_rare_kind kinds.Refused = true
is_rare_kind kinds.Notified = true
is_rare_kind kinds.Down = true
is_rare_kind _ = false

-- a session is up
abbrev pub is_up : MarkKind → Bool
is_up kinds.Up = true
is_up _ = false

-- two columns are one rail
abbrev pub same_rail : Column → Column → Bool
same_rail (Rail link node) (Rail on at) = (link.0 == on.0) && (node.0 == at.0)
same_rail _ _ = false

-- a rail is one of these
abbrev pub has_rail : List Column → Column → Bool
has_rail rails rail = list_any (λ r. same_rail r rail) rails

-- the rails that had a session up, with that of a mark
abbrev pub rails_with : List Column → Mark → List Column
rails_with rails m =
    if is_up m.kind && not (has_rail rails m.column) then rails ++ m.column ∷ [] else rails

-- a line is rare: a session that is up is so where its rail is one of these, which had one before
abbrev pub is_rare : List Column → Mark → Bool
is_rare rails m = is_rare_kind m.kind || (is_up m.kind && has_rail rails m.column)

-- a line at a place among all, where it is rare
abbrev pub rare_if : List Column → ℕ → Mark → List Rare
rare_if rails place m =
    if is_rare rails m then record { mark = m; place = place } ∷ [] else []

-- the rare ones of lines from this place on, behind sessions on these rails
abbrev pub rare_from : List Column → ℕ → List Mark → List Rare
rare_from rails place [] = []
rare_from rails place (m ∷ marks) =
    rare_if rails place m ++ rare_from (rails_with rails m) (place + 1) marks

-- THE RARE ONES OF LINES, in order
abbrev pub rare_of : List Mark → List Rare
rare_of marks = rare_from [] 0 marks
