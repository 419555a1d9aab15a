pub mod Front
pub mod Lines
pub mod Replays
pub mod Stops
pub mod Laws
