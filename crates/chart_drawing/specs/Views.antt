-- What of a chart is seen, and which of it has a row.
use Rattle.std.specs.Prelude.{ℕ, ◌+◌, ◌-◌, ◌==◌, nat_le, nat_lt, min, Bool, true, false, not, ◌&&◌}
use Rattle.std.specs.Prelude.{◌||◌, if◌then◌else◌, List, [], ◌∷◌, ◌++◌, filter, Option, Some, None}
use Rattle.std.specs.Prelude.{slice_get, is_some}
use Rattle.std.specs.List.{list_any}
use Rattle.linx_base.specs.declared.identity.ItemAt.{ItemAt}
use Rattle.journal.specs.declared.by.By.{By}
use Rattle.journal.specs.declared.by.By.TheVariants.{Actor, Pump}
use Rattle.chart.specs.declared.column.Column.{Column}
use Rattle.chart.specs.declared.column.Column.TheVariants.{Life}
use Rattle.chart.specs.declared.mark.Mark.{Mark}
use Rattle.chart.specs.declared.mark.MarkKind.{MarkKind}
use Rattle.chart.specs.declared.mark.MarkKind.TheVariants.{Packet, Tick}
use Rattle.chart.specs.declared.tie.Tie.{Tie}
use Rattle.chart.specs.Carried.{same_maker}
use Rattle.chart_drawing.specs.declared.view.Steps.{Steps}
use Rattle.chart_drawing.specs.declared.view.View.{View}

-- all of a chart
abbrev pub whole : View
whole = record { plain = false; fold = false; steps = None; of = None }

-- the steps that are seen: all that a journal may have, where there is no window
abbrev pub steps_seen : Option Steps → Steps
steps_seen None = record { first = 0; last = 18446744073709551615 }
steps_seen (Some steps) = steps

-- a line is of one of these steps
abbrev pub is_in : Steps → ItemAt → Bool
is_in steps line = nat_le steps.first line.step && nat_le line.step steps.last

-- a line stands above these steps
abbrev pub is_above : Steps → ItemAt → Bool
is_above steps line = nat_lt line.step steps.first

-- a column is the line of this actor
abbrev pub on_life : ℕ → Column → Bool
on_life actor (Life number) = number == actor
on_life actor _ = false

-- a mark stands on the line of this maker, or is of a send to an endpoint of its
abbrev pub comes_to : By → Mark → Bool
comes_to (Actor actor) m = on_life actor m.column || on_life actor m.to
comes_to (Pump link) m = false

-- a mark is of a step of this maker, or of what came to an endpoint of its or was sent to one
abbrev pub is_of_maker : By → Mark → Bool
is_of_maker maker m = same_maker m.by maker || comes_to maker m

-- a mark is of one of these makers
abbrev pub is_of_makers : List By → Mark → Bool
is_of_makers makers m = list_any (λ (maker : By). is_of_maker maker m) makers

-- a mark is of those that are asked for, if any are
abbrev pub is_asked_for : Option (List By) → Mark → Bool
is_asked_for None m = true
is_asked_for (Some makers) m = is_of_makers makers m

-- A MARK IS SEEN: it is of one of the steps, and of one of the makers, that are asked for
abbrev pub is_seen : View → Mark → Bool
is_seen view m = is_in (steps_seen view.steps) m.line && is_asked_for view.of m

-- a view leaves out steps or makers
abbrev pub is_part : View → Bool
is_part view = is_some view.steps || is_some view.of

-- a mark is of an effect
abbrev pub is_effect_if : Option Mark → Bool
is_effect_if None = false
is_effect_if (Some m) = not (m.line.place == 0)

-- a mark is of a step of a link, a packet or a tick
abbrev pub is_link_step : MarkKind → Bool
is_link_step (Packet verdict) = true
is_link_step Tick = true
is_link_step _ = false

-- before these marks, a mark is of a step of a link without effects
abbrev pub is_quiet : Mark → List Mark → Bool
is_quiet m more = is_link_step m.kind && not (is_effect_if (slice_get more 0))

-- before these marks, and behind one that is seen and of a step of a link without effects, or not, a
-- mark shares the row of that one
abbrev pub is_folded : View → Bool → Mark → List Mark → Bool
is_folded view quiet m more = view.fold && is_seen view m && quiet && is_quiet m more

-- there a mark begins a row
abbrev pub begins_row : View → Bool → Mark → List Mark → Bool
begins_row view quiet m more = is_seen view m && not (is_folded view quiet m more)

-- the last mark that is seen is of a step of a link without effects, with a further mark
abbrev pub quiet_with : View → Bool → Mark → List Mark → Bool
quiet_with view quiet m more = if is_seen view m then is_quiet m more else quiet

-- the marks that begin rows, behind such a mark or not
abbrev pub row_marks_from : View → Bool → List Mark → List Mark
row_marks_from view quiet [] = []
row_marks_from view quiet (m ∷ more) =
    (if begins_row view quiet m more then m ∷ [] else [])
    ++ row_marks_from view (quiet_with view quiet m more) more

-- THE MARKS THAT BEGIN ROWS: all that are seen, but under `fold` of each run of steps of links without
-- effects only the first
abbrev pub row_marks : View → List Mark → List Mark
row_marks view marks = row_marks_from view false marks

-- a mark stands above the steps
abbrev pub has_above : Steps → List Mark → Bool
has_above steps marks = list_any (λ (m : Mark). is_above steps m.line) marks

-- how many rows there are with so many that marks begin: before them one for all above the steps
abbrev pub rows_with : Bool → ℕ → ℕ
rows_with above begun = if above then begun + 1 else begun

-- the number of the next row, up to the highest that there may be, behind a further mark
abbrev pub row_behind : View → Bool → ℕ → Mark → List Mark → ℕ
row_behind view quiet row m more =
    if begins_row view quiet m more then min (row + 1) 65535 else row

-- THE ROW OF A MARK, where the next row has this number: what is above the steps is in the first row,
-- what shares a row in the one before, and what isn't seen where the next row is or would be
abbrev pub row_of_mark : View → Bool → ℕ → Mark → List Mark → ℕ
row_of_mark view quiet row m more =
    if is_above (steps_seen view.steps) m.line then 0
    else (if is_folded view quiet m more then row - 1 else row)

-- a tie reaches into a window: it begins in it or above it, and ends in it or below it
abbrev pub reaches : Steps → Tie → Bool
reaches steps t = nat_le t.from.step steps.last && nat_le steps.first t.to.step

-- THE TIES OF A WINDOW: those that reach into it
abbrev pub ties_in : Steps → List Tie → List Tie
ties_in steps ties = filter (λ (t : Tie). reaches steps t) ties
