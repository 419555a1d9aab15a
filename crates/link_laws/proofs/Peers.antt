-- Peers of a node: met, living, reached.
pub mod AttachesBetweenLiving
pub mod Living
pub mod Meetings
pub mod FactsOfMet
pub mod OverItsLinks
