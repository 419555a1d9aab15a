-- Turns, rounds, whole runs.
pub mod LayingOut
pub mod PlayersBetweenTurns
pub mod WhoIsReady
pub mod EachMakesAStep
pub mod Seats
pub mod Stops
pub mod Turns
pub mod WholeRuns
