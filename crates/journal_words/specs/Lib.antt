pub mod Names
pub mod Data
pub mod Peers
pub mod Filter
pub mod Answers
pub mod Heads
pub mod Effects
pub mod Lines
