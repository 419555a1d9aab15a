-- How packets and ticks look in a lane, which is 156 wide, with rails at 24 and at 132. A packet
-- goes from the first rail to the second, or the other way where the lane is turned.
use Rattle.std.specs.Prelude.{ℕ, if◌then◌else◌, List, [], ◌∷◌}
use Rattle.linx_base.specs.declared.frame.Verdict.{Verdict}
use Rattle.linx_base.specs.declared.frame.Verdict.TheVariants.{Deliver, Lose, Repeat, Swap}
use Rattle.svg_text.specs.declared.class.Class.{Class}
use Rattle.svg_text.specs.declared.class.Class.TheVariants.{Packet, PacketHead, Told, ToldHead}
use Rattle.svg_text.specs.declared.class.Class.TheVariants.{Wrong}
use Rattle.svg_text.specs.declared.shape.Shape.{Shape}
use Rattle.svg_text.specs.declared.shape.Shape.TheVariants.{Path}
use Rattle.svg_text.specs.declared.shape.Stroke.TheVariants.{Curve, Close}
use Rattle.chart_drawing.specs.declared.spot.Spot.{Spot}
use Rattle.chart_drawing.specs.Spots.{in_lane, lane_move, lane_line}

-- how the way of a packet looks: dark where the packet brought something
abbrev pub packet_class : Spot → Class
packet_class spot = if spot.told then Told else Packet

-- how the head of a packet's arrow looks: dark where the packet brought something
abbrev pub packet_head_class : Spot → Class
packet_head_class spot = if spot.told then ToldHead else PacketHead

-- from one rail to the other
abbrev pub flight : Spot → Shape
flight spot = Path (packet_class spot) (lane_move spot 28 9 ∷ lane_line spot 128 9 ∷ [])

-- an arrow's head, 8 long, with its tip so far along
abbrev pub lane_head : Spot → ℕ → ℕ → Shape
lane_head spot base tip =
    Path (packet_head_class spot)
    (lane_move spot tip 9 ∷ lane_line spot base 5 ∷ lane_line spot base 13 ∷ Close ∷ [])

-- a packet that is lost halfway
abbrev pub lost_shapes : Spot → List Shape
lost_shapes spot =
    Path Packet (lane_move spot 28 9 ∷ lane_line spot 72 9 ∷ [])
    ∷ Path Wrong (lane_move spot 74 5 ∷ lane_line spot 82 13 ∷ lane_move spot 82 5
    ∷ lane_line spot 74 13 ∷ []) ∷ []

-- a packet that changes its place: two lines that cross
abbrev pub swapped : Spot → Shape
swapped spot =
    Path Told
    (lane_move spot 28 5 ∷ Curve (in_lane spot 78 5) (in_lane spot 58 13) (in_lane spot 78 13)
    ∷ lane_move spot 28 13
    ∷ Curve (in_lane spot 78 13) (in_lane spot 58 5) (in_lane spot 78 5) ∷ [])

-- a packet, by what became of it
abbrev pub packet_shapes : Spot → Verdict → List Shape
packet_shapes spot Deliver = flight spot ∷ lane_head spot 120 128 ∷ []
packet_shapes spot Lose = lost_shapes spot
packet_shapes spot Repeat = flight spot ∷ lane_head spot 120 128 ∷ lane_head spot 111 119 ∷ []
packet_shapes spot (Swap place) = swapped spot ∷ []

-- a tick of a side's clock
abbrev pub tick_shape : Spot → Shape
tick_shape spot =
    Path (packet_class spot)
    (lane_move spot 20 9 ∷ lane_line spot 34 9 ∷ lane_move spot 34 6 ∷ lane_line spot 34 12 ∷ [])
