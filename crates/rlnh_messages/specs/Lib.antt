pub mod Messages
pub mod Signals
pub mod Readings
pub mod Laws
pub mod Failures
