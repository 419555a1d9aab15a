pub mod Working
pub mod Turning
pub mod Running
