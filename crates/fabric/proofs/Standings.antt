-- How the actors stand.
pub mod Counting
pub mod Idling
pub mod Leading
pub mod MakerAfterStep
pub mod KernelAndStanding
pub mod AfterStep
