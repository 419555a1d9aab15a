pub mod Places
pub mod Rising
pub mod Bringing
pub mod Gathering
pub mod Keeping
pub mod Calling
pub mod ByPeer
mod Worked
