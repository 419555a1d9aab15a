pub mod Begun
pub mod Asking
pub mod Replying
pub mod GoingOn
pub mod Room
pub mod Timers
pub mod Wholes
