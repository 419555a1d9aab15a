pub mod Joined
mod Kept
mod Room
pub mod Within
