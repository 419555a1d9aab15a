pub mod First
pub mod Begun
