pub mod Replying
pub mod Sessions
pub mod Laws
pub mod Whole
