pub mod Openings
pub mod Choices
pub mod StepLines
pub mod Lines
pub mod Spelling
pub mod Showing
pub mod Fitting
