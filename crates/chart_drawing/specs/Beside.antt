-- What lies beside a line: to the right what is in a queue, from its arrival to its take; to the left
-- what was asked for, from a hunt or an attach to its answer, or to the detach.
use Rattle.std.specs.Prelude.{ℕ, ◌+◌, ◌-◌, ◌==◌, nat_lt, Bool, true, false, not, ◌&&◌}
use Rattle.std.specs.Prelude.{if◌then◌else◌, List, [], ◌∷◌, ◌++◌, Option, Some}
use Rattle.std.specs.List.{list_any}
use Rattle.svg_text.specs.declared.class.Class.{Class}
use Rattle.svg_text.specs.declared.class.Class.TheVariants.{Queue, QueueFound, QueueNotice, Found}
use Rattle.svg_text.specs.declared.class.Class.TheVariants.{Notice}
use Rattle.svg_text.specs.declared.shape.Shape.{Shape}
use Rattle.svg_text.specs.declared.shape.Shape.TheVariants.{Path}
use Rattle.svg_text.specs.declared.shape.Stroke.TheVariants as strokes
use Rattle.chart.specs.declared.mark.MarkKind.{MarkKind}
use Rattle.chart.specs.declared.mark.MarkKind.TheVariants as kinds
use Rattle.chart.specs.declared.tie.Tie.{Tie}
use Rattle.chart.specs.declared.tie.TieKind.{TieKind}
use Rattle.chart.specs.declared.tie.TieKind.TheVariants.{Signal, Carried, Lost, Taken}
use Rattle.chart.specs.declared.tie.TieKind.TheVariants.{Hunt}
use Rattle.chart_drawing.specs.declared.beside.Loop.{Loop}
use Rattle.chart_drawing.specs.declared.spot.Spot.{Spot}
use Rattle.chart_drawing.specs.Spots.{spot_at, same_column, move, line, beside}

-- the tie is drawn to the right of a line
abbrev pub is_taken : TieKind → Bool
is_taken Taken = true
is_taken _ = false

-- a tie is drawn on this side: to the right or to the left
abbrev pub is_on_side : Bool → TieKind → Bool
is_on_side right kind = if right then is_taken kind else not (is_taken kind)

-- two loops of one side and line are both in some row
abbrev pub are_together : Bool → Spot → Spot → Loop → Bool
are_together right from to other =
    is_on_side right other.kind && same_column other.from.mark.column from.mark.column
    && nat_lt other.from.row to.row && nat_lt from.row other.to.row

-- a loop would meet another one so far from the line
abbrev pub meets : Bool → Spot → Spot → ℕ → List Loop → Bool
meets right from to out loops =
    list_any (λ (l : Loop). l.out == out && are_together right from to l) loops

-- HOW FAR FROM THE LINE a loop stands: nearest to it where it meets none of those that stand there;
-- from the sixth on they lie over each other
abbrev pub free_out : Bool → Spot → Spot → List Loop → ℕ
free_out right from to loops =
    if meets right from to 0 loops
    then (if meets right from to 4 loops
    then (if meets right from to 8 loops
    then (if meets right from to 12 loops then 16 else 12) else 8) else 4) else 0

-- the loop of a tie between two spots, besides those that stand there
abbrev pub loop_of : TieKind → Spot → Spot → List Loop → Loop
loop_of kind from to loops = record {
  kind = kind;
  from = from;
  to = to;
  out = free_out (is_taken kind) from to loops;
}

-- the loop of a tie whose lines have these spots; a signal has none
abbrev pub loop_if : TieKind → Option Spot → Option Spot → List Loop → List Loop
loop_if Signal from to loops = []
loop_if Carried from to loops = []
loop_if Lost from to loops = []
loop_if kind (Some from) (Some to) loops = loop_of kind from to loops ∷ []
loop_if kind from to loops = []

-- THE LOOPS OF TIES: these, and behind them one for each tie
abbrev pub loops_with : List Spot → List Loop → List Tie → List Loop
loops_with spots loops [] = loops
loops_with spots loops (t ∷ more) =
    loops_with spots
    (loops ++ loop_if t.kind (spot_at spots t.from) (spot_at spots t.to) loops) more

-- how what is in a queue looks, by the mark that it came with
abbrev pub queue_class : MarkKind → Class
queue_class kinds.Found = QueueFound
queue_class kinds.Notified = QueueNotice
queue_class _ = Queue

-- how a loop looks
abbrev pub loop_class : TieKind → MarkKind → Class
loop_class Taken kind = queue_class kind
loop_class Hunt kind = Found
loop_class _ kind = Notice

-- from one place to another, by a line that stands so far to the right
abbrev pub round : Class → Spot → Spot → ℕ → ℕ → Shape
round class from to edge far =
    Path class (move from edge 9 ∷ line from far 9 ∷ strokes.Line (beside from to far 9)
    ∷ line to edge 9 ∷ [])

-- HOW A LOOP LOOKS: to the right of the line or to the left
abbrev pub loop_shape : Loop → Shape
loop_shape l =
    if is_taken l.kind
    then round (loop_class l.kind l.from.mark.kind) l.from l.to 37 (41 + l.out)
    else round (loop_class l.kind l.from.mark.kind) l.from l.to 27 (23 - l.out)
