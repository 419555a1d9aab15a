pub mod Echoing
pub mod Replying
pub mod Sessions
