-- What each kind of step has to show as a move.
pub mod Shown
pub mod Closes
pub mod Givings
pub mod Hunts
pub mod Openings
pub mod PacketsAndTicks
pub mod QuietSteps
pub mod Restarts
pub mod OneSideSays
pub mod ManySidesSay
pub mod Sends
pub mod Turns
