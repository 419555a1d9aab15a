pub mod Told
pub mod Drawn
