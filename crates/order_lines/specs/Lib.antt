pub mod Lines
pub mod Turns
pub mod Faults
pub mod Fronts
