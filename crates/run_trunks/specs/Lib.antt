pub mod States
pub mod Changes
pub mod Calls
pub mod Laws
