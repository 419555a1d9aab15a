mod Counted
mod Stopped
pub mod Tallies
