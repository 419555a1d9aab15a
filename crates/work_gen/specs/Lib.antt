pub mod Generated
pub mod Losses
pub mod Building
