pub mod Bindings
pub mod Knowing
pub mod Asking
pub mod Following
