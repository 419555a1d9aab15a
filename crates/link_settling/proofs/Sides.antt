-- How the two sides stand to each other.
pub mod Apart
pub mod OneConnecting
pub mod Fresh
pub mod HalfOpen
pub mod Hearing
pub mod Joining
