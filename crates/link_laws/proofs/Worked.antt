-- Worked runs.
pub mod Playing
pub mod OverLinks
pub mod WithRecords
