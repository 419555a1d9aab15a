-- Ticks and rounds.
pub mod TicksLeft
pub mod SixRounds
pub mod SixTicks
pub mod OneTick
pub mod AnyOrder
pub mod Worked
