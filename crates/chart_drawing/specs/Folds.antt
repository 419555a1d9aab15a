-- Rows of several marks: a run of steps of links without effects, as how many packets, losses and
-- ticks there were.
use Rattle.std.specs.Prelude.{ℕ, ◌+◌, ◌-◌, ◌==◌, nat_lt, Bool, true, false, not, ◌&&◌, ◌||◌}
use Rattle.std.specs.Prelude.{if◌then◌else◌, List, [], ◌∷◌, ◌++◌, length, filter, take, position}
use Rattle.std.specs.Prelude.{flat_map, slice_get, Option, Some, None, codes, decimal}
use Rattle.linx_base.specs.declared.frame.Verdict.TheVariants.{Lose}
use Rattle.svg_text.specs.declared.class.Class.{Class}
use Rattle.svg_text.specs.declared.class.Class.TheVariants.{Fold, Faint, WrongLabel}
use Rattle.svg_text.specs.declared.shape.Anchor.TheVariants.{Middle}
use Rattle.svg_text.specs.declared.shape.Shape.{Shape}
use Rattle.svg_text.specs.declared.shape.Shape.TheVariants.{Box, Words}
use Rattle.chart.specs.declared.column.Column.{Column}
use Rattle.chart.specs.declared.mark.MarkKind.{MarkKind}
use Rattle.chart.specs.declared.mark.MarkKind.TheVariants.{Packet, Tick}
use Rattle.chart_drawing.specs.declared.runs.Tally.{Tally}
use Rattle.chart_drawing.specs.declared.setting.DrawnLink.{DrawnLink}
use Rattle.chart_drawing.specs.declared.setting.Setting.{Setting}
use Rattle.chart_drawing.specs.declared.spot.Spot.{Spot}
use Rattle.chart_drawing.specs.Arrows.{is_packet}
use Rattle.chart_drawing.specs.Layout.{lane_left}
use Rattle.chart_drawing.specs.Seen.{on_link}
use Rattle.chart_drawing.specs.Spots.{point, row_top}

-- the first so many spots; all where there is no number
abbrev pub run_if : Option ℕ → List Spot → List Spot
run_if None spots = spots
run_if (Some k) spots = take k spots

-- a spot stands in another row
abbrev pub is_off : ℕ → Spot → Bool
is_off row s = not (s.row == row)

-- the place of the first of these spots that stands in another row
abbrev pub run_end : ℕ → List Spot → Option ℕ
run_end row spots = position (is_off row) spots

-- THE MARKS OF A ROW: the first of these spots that stand in it
abbrev pub run_of : ℕ → List Spot → List Spot
run_of row spots = run_if (run_end row spots) spots

-- a row has several marks
abbrev pub is_run : List Spot → Bool
is_run run = nat_lt 1 (length run)

-- a packet was lost
abbrev pub is_lost : MarkKind → Bool
is_lost (Packet Lose) = true
is_lost _ = false

-- a clock ticked
abbrev pub is_tick : MarkKind → Bool
is_tick Tick = true
is_tick _ = false

-- a column is of this link; of any where none is named
abbrev pub is_on : Option ℕ → Column → Bool
is_on None column = true
is_on (Some link) column = on_link link column

-- how many packets there are on this link, or on all
abbrev pub packets_on : Option ℕ → List Spot → ℕ
packets_on link run =
    length (filter (λ (s : Spot). is_on link s.mark.column && is_packet s.mark.kind) run)

-- how many of them were lost
abbrev pub losses_on : Option ℕ → List Spot → ℕ
losses_on link run =
    length (filter (λ (s : Spot). is_on link s.mark.column && is_lost s.mark.kind) run)

-- how many ticks there are
abbrev pub ticks_on : Option ℕ → List Spot → ℕ
ticks_on link run =
    length (filter (λ (s : Spot). is_on link s.mark.column && is_tick s.mark.kind) run)

-- what the marks of a row are, on this link or on all
abbrev pub tally_of : Option ℕ → List Spot → Tally
tally_of link run = record {
  packets = packets_on link run;
  lost = losses_on link run;
  ticks = ticks_on link run;
}

-- words with a space behind them, where there are any
abbrev pub spaced : List ℕ → List ℕ
spaced so_far = if length so_far == 0 then so_far else so_far ++ codes " "

-- how many there are, behind words, with this behind one and that behind several; nothing of none
abbrev pub with_count : List ℕ → ℕ → List ℕ → List ℕ → List ℕ
with_count so_far count one several =
    if count == 0 then so_far
    else spaced so_far ++ decimal count ++ (if count == 1 then one else several)

-- a tally behind words, in words
abbrev pub with_tally : List ℕ → Tally → List ℕ
with_tally so_far t =
    with_count
    (with_count (with_count so_far t.packets (codes " packet") (codes " packets")) t.lost
    (codes " lost") (codes " lost"))
    t.ticks (codes " tick") (codes " ticks")

-- a tally in letters, but for what was lost
abbrev pub brief_tally : Tally → List ℕ
brief_tally t =
    with_count
    (with_count (with_count [] t.packets (codes "p") (codes "p")) t.lost (codes " lost")
    (codes " lost"))
    t.ticks (codes "t") (codes "t")

-- a tally counts things of several kinds
abbrev pub is_mixed : Tally → Bool
is_mixed t = nat_lt 0 t.lost || (nat_lt 0 t.packets && nat_lt 0 t.ticks)

-- a tally as there is room for in a lane
abbrev pub lane_tally : Tally → List ℕ
lane_tally t = if is_mixed t then brief_tally t else with_tally [] t

-- how a tally looks: wrong where something was lost
abbrev pub tally_class : Tally → Class
tally_class t = if nat_lt 0 t.lost then WrongLabel else Faint

-- the tally of a lane in a row, where it counts something
abbrev pub tally_shapes : Setting → ℕ → DrawnLink → Tally → List Shape
tally_shapes setting row l t =
    if t.packets + t.ticks == 0 then []
    else Box Fold (record {
      corner = point (lane_left setting l + 30) (row_top row + 3);
      width = 96;
      height = 12;
    })
    ∷ Words (tally_class t) Middle (point (lane_left setting l + 78) (row_top row + 13))
    (lane_tally t) ∷ []

-- WHAT A ROW OF SEVERAL MARKS SHOWS: of each lane its tally
abbrev pub fold_shapes : Setting → ℕ → List Spot → List Shape
fold_shapes setting row run =
    flat_map (λ (l : DrawnLink). tally_shapes setting row l (tally_of (Some l.link.0) run))
    setting.links

-- the step of a spot; 0 where there is none
abbrev pub step_if : Option Spot → ℕ
step_if None = 0
step_if (Some s) = s.mark.line.step

-- the step of the last of these marks
abbrev pub last_step : List Spot → ℕ
last_step run = step_if (slice_get run (length run - 1))

-- THE WORDS OF A ROW OF SEVERAL MARKS: up to which step it goes, and what is in it
abbrev pub fold_words : List Spot → List ℕ
fold_words run = with_tally (codes "to " ++ decimal (last_step run) ++ codes ":") (tally_of None run)
