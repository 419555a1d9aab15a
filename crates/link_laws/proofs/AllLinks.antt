-- All sides of all links.
pub mod SameSides
pub mod Answers
pub mod Turns
pub mod NodesFit
pub mod OneSideKept
pub mod Acts
pub mod Packets
pub mod Pairs
pub mod Publishings
pub mod QuietSteps
pub mod Restarts
pub mod OthersStay
