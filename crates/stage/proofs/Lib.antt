pub mod Actors
pub mod Settling
pub mod Plans
pub mod Rounds
