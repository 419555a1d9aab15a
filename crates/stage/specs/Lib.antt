pub mod Pumps
pub mod Stops
pub mod Settlings
pub mod Turns
pub mod Plays
pub mod Seats
pub mod Ready
