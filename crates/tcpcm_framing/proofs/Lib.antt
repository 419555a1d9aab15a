pub mod Filled
pub mod Spelled
pub mod Begun
pub mod Agreeing
pub mod Fronts
