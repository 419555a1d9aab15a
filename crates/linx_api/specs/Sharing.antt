-- What the makers of a run share behind the lock.
use Rattle.std.specs.Prelude.{Option, Some, None}
use Rattle.fabric.specs.declared.stop.StopCause.{StopCause}
use Rattle.fabric.specs.Run.{Layout}

-- a fabric, and the cause of a stop that is noted, if one is
pub record Shared : Type 0 where
  pub run : Layout
  pub stop : Option StopCause

-- what is shared, with another fabric in its place
abbrev pub shared_with : Shared → Layout → Shared
shared_with shared run = record shared { run = run }

-- THE CAUSE THAT IS NOTED after one more: the first one stays
abbrev pub first_noted : Option StopCause → StopCause → Option StopCause
first_noted None cause = Some cause
first_noted (Some before) cause = Some before
