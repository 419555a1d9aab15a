-- Arrows: from a send to its arrival, and to what else came to a queue from where it came.
use Rattle.std.specs.Prelude.{ℕ, ◌+◌, nat_lt, Bool, true, false, if◌then◌else◌}
use Rattle.std.specs.Prelude.{List, [], ◌∷◌, flat_map, Option, Some, None}
use Rattle.svg_text.specs.declared.class.Class.{Class}
use Rattle.svg_text.specs.declared.class.Class.TheVariants.{Signal, SignalHead, Found, FoundHead}
use Rattle.svg_text.specs.declared.class.Class.TheVariants.{Notice, NoticeHead}
use Rattle.svg_text.specs.declared.shape.Point.{Point}
use Rattle.svg_text.specs.declared.shape.Shape.{Shape}
use Rattle.svg_text.specs.declared.shape.Shape.TheVariants.{Path}
use Rattle.svg_text.specs.declared.shape.Stroke.TheVariants as strokes
use Rattle.chart.specs.declared.mark.MarkKind.{MarkKind}
use Rattle.chart.specs.declared.mark.MarkKind.TheVariants as kinds
use Rattle.chart.specs.declared.tie.Tie.{Tie}
use Rattle.chart.specs.declared.tie.TieKind.{TieKind}
use Rattle.chart.specs.declared.tie.TieKind.TheVariants as ties
use Rattle.chart_drawing.specs.declared.spot.Spot.{Spot}
use Rattle.chart_drawing.specs.LifeMarks.{leaving, cross}
use Rattle.chart_drawing.specs.Spots.{in_cell, in_lane, beside, move, line, spot_at, same_column}
use Rattle.chart_drawing.specs.Spots.{lane_line, point}

-- the head of an arrow at a spot, with its tip and its base so far to the right
abbrev pub head_at : Class → Spot → ℕ → ℕ → Shape
head_at class to tip base =
    Path class (move to tip 9 ∷ line to base 5 ∷ line to base 13 ∷ strokes.Close ∷ [])

-- a line to a spot that ends level, by a bend and a tip so far to the right
abbrev pub way_to : Class → Point → Spot → ℕ → ℕ → Shape
way_to class from to bend tip =
    Path class (strokes.Move from ∷ line to bend 9 ∷ line to tip 9 ∷ [])

-- AN ARROW from a point to a spot's line: from the left to its left edge, else to its right one
abbrev pub arrow : Class → Class → Point → Spot → List Shape
arrow class head from to =
    if nat_lt from.x (to.x + 32)
    then way_to class from to 13 27 ∷ head_at head to 27 19 ∷ []
    else way_to class from to 51 37 ∷ head_at head to 37 45 ∷ []

-- an arrow from a line back to itself
abbrev pub hook : Class → Class → Spot → Spot → List Shape
hook class head from to =
    Path class (move from 37 9 ∷ line from 56 9 ∷ strokes.Line (beside from to 56 9)
    ∷ line to 37 9 ∷ [])
    ∷ head_at head to 37 45 ∷ []

-- an arrow from a mark on a line
abbrev pub arrow_from : Class → Class → Spot → Spot → List Shape
arrow_from class head from to =
    if same_column from.mark.column to.mark.column then hook class head from to
    else arrow class head (in_cell from 32 9) to

-- the spot of a mark's step
abbrev pub step_spot : List Spot → Spot → Option Spot
step_spot spots spot = spot_at spots (record { step = spot.mark.line.step; place = 0 })

-- a mark is of a packet
abbrev pub is_packet : MarkKind → Bool
is_packet (kinds.Packet verdict) = true
is_packet _ = false

-- a signal that a packet carries: level to the near rail, and on to the far one, where the packet
-- came
abbrev pub carried : Spot → Spot → Shape
carried from packet =
    Path Signal (move from 32 9
    ∷ strokes.Line (point (in_lane packet 24 9).x (in_cell from 32 9).y)
    ∷ lane_line packet 132 9 ∷ [])

-- a signal from its send, carried by the packet whose step its arrival is in, where it is one; where
-- its lane isn't drawn, straight to its arrival
abbrev pub carried_by : Spot → Spot → Option Spot → List Shape
carried_by from to None = arrow_from Signal SignalHead from to
carried_by from to (Some step) =
    if is_packet step.mark.kind then carried from step ∷ [] else []

-- a signal that goes where nothing is drawn: a short arrow from its send, where that is seen
abbrev pub sent_off : Spot → List Shape
sent_off from =
    if from.seen then leaving from ∷ head_at SignalHead from 56 48 ∷ [] else []

-- a signal that never arrived: a line with a cross
abbrev pub lost : Spot → List Shape
lost from = leaving from ∷ cross from 48 ∷ []

-- a signal from its send to its arrival, on a node or over a link, or only from its send
abbrev pub signal_if : List Spot → TieKind → Option Spot → Option Spot → List Shape
signal_if spots ties.Signal (Some from) (Some to) = arrow_from Signal SignalHead from to
signal_if spots ties.Carried (Some from) (Some to) = carried_by from to (step_spot spots to)
signal_if spots ties.Carried (Some from) None = sent_off from
signal_if spots ties.Lost (Some from) (Some to) = lost from
signal_if spots kind from to = []

-- THE ARROWS OF SIGNALS, one for each tie of a send
abbrev pub signal_arrows : List Spot → List Tie → List Shape
signal_arrows spots ties =
    flat_map (λ (t : Tie). signal_if spots t.kind (spot_at spots t.from) (spot_at spots t.to)) ties

-- an arrow to a mark from its step: from the rail where a packet came or a clock ticked, or from the
-- line of its maker, but for a send, whose arrow is that of a tie
abbrev pub coming_from : Class → Class → MarkKind → Spot → Spot → List Shape
coming_from class head (kinds.Packet verdict) step to = arrow class head (in_lane step 132 9) to
coming_from class head kinds.Tick step to = arrow class head (in_lane step 24 9) to
coming_from class head (kinds.Send answer) step to = []
coming_from class head kind step to = arrow_from class head step to

-- an arrow to a mark from its step, where that has a spot
abbrev pub coming_if : Class → Class → Option Spot → Spot → List Shape
coming_if class head None to = []
coming_if class head (Some step) to = coming_from class head step.mark.kind step to

-- the arrow to what came to a queue
abbrev pub coming : List Spot → MarkKind → Spot → List Shape
coming spots kinds.Arrived to = coming_if Signal SignalHead (step_spot spots to) to
coming spots kinds.Found to = coming_if Found FoundHead (step_spot spots to) to
coming spots kinds.Notified to = coming_if Notice NoticeHead (step_spot spots to) to
coming spots kind to = []

-- THE ARROWS TO WHAT CAME TO QUEUES
abbrev pub comings : List Spot → List Spot → List Shape
comings spots some = flat_map (λ (s : Spot). coming spots s.mark.kind s) some
