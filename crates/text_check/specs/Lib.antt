pub mod Checks
pub mod Parts
pub mod Laws
