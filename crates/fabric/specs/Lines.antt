-- How what is noted of a link changes, and what an actor does to a link as a whole.
use Rattle.std.specs.Prelude.{suc, true, false, if◌then◌else◌}
use Rattle.linx_base.specs.declared.identity.LinkNo.{LinkNo}
use Rattle.linx_base.specs.declared.identity.Side.{Side}
use Rattle.linx_base.specs.declared.identity.Side.TheVariants.{First, Second}
use Rattle.journal.specs.declared.event.Event.{Event}
use Rattle.journal.specs.declared.event.Event.TheVariants as asks
use Rattle.journal.specs.declared.head.Head.{Head}
use Rattle.journal.specs.declared.head.Head.TheVariants as heads
use Rattle.fabric.specs.declared.line.Line.{Line}
use Rattle.fabric.specs.declared.line.Mark.{Mark}
use Rattle.fabric.specs.declared.line.Mark.TheVariants.{Cut, Mend, Settle}

-- a link before the first step
abbrev pub fresh_line : Line
fresh_line = record { cut = false; plans_ended = false; from_first = 0; from_second = 0; ticks = 0 }

-- the event of a mark
abbrev pub event_of_mark : Mark → LinkNo → Event
event_of_mark Cut l = asks.Cut l
event_of_mark Mend l = asks.Mend l
event_of_mark Settle l = asks.Settle l

-- the head of a mark's step
abbrev pub head_of_mark : Mark → LinkNo → Head
head_of_mark Cut l = heads.Cut l
head_of_mark Mend l = heads.Mend l
head_of_mark Settle l = heads.Settle l

-- a line of a link that an actor has marked
abbrev pub marked : Mark → Line → Line
marked Cut line = record line { cut = true }
marked Mend line = record line { cut = false }
marked Settle line = record line { plans_ended = true }

-- a line of a link with one packet from a side more, which counts where the link isn't cut
abbrev pub counted : Side → Line → Line
counted First line = if line.cut then line else record line { from_first = suc line.from_first }
counted Second line = if line.cut then line else record line { from_second = suc line.from_second }

-- a line of a link with one tick more
abbrev pub ticked_more : Line → Line
ticked_more line = record line { ticks = suc line.ticks }
