-- Whose steps the strips of a map have.
use Rattle.std.specs.Prelude.{Bool, true, false, ◌==◌, ◌&&◌}
use Rattle.linx_base.specs.declared.identity.Side.{Side}
use Rattle.linx_base.specs.declared.identity.Side.TheVariants as sides
use Rattle.journal.specs.declared.by.By.{By}
use Rattle.journal.specs.declared.by.By.TheVariants as makers
use Rattle.journal.specs.declared.head.Head.{Head}
use Rattle.journal.specs.declared.head.Head.TheVariants.{Wire, Tick}
use Rattle.journal.specs.declared.effect.Step.{Step}
use Rattle.chart_map.specs.declared.strips.Strip.{Strip}
use Rattle.chart_map.specs.declared.strips.Strip.TheVariants.{Actor, Way}

-- the strip of what a maker does itself; a link's own pump makes packets and ticks alone
abbrev pub strip_of_maker : By → Strip
strip_of_maker (makers.Actor actor) = Actor actor
strip_of_maker (makers.Pump link) = Way link sides.First

-- the strip of a head: packets and ticks are of their link's direction, whoever makes them
abbrev pub strip_of_head : By → Head → Strip
strip_of_head by (Wire link side verdict) = Way link side
strip_of_head by (Tick link side) = Way link side
strip_of_head by head = strip_of_maker by

-- THE STRIP OF A STEP: each step has one
abbrev pub strip_of : Step → Strip
strip_of s = strip_of_head s.by s.head

-- two sides of a link are one
abbrev pub same_side : Side → Side → Bool
same_side sides.First sides.First = true
same_side sides.Second sides.Second = true
same_side _ _ = false

-- two strips are one
abbrev pub same_strip : Strip → Strip → Bool
same_strip (Actor a) (Actor b) = a == b
same_strip (Way link side) (Way on from) = (link.0 == on.0) && same_side side from
same_strip _ _ = false

-- a step is of a strip
abbrev pub is_of : Strip → Step → Bool
is_of strip s = same_strip (strip_of s) strip
