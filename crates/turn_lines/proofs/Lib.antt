pub mod MoreTurns
mod Lines
pub mod Bytes
pub mod Words
mod Named
pub mod Listed
pub mod Fronts
