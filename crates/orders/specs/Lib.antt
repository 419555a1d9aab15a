pub mod Makers
pub mod Runs
pub mod Seeds
pub mod Turns
pub mod Laws
