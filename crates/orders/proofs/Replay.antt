-- A whole run of a script comes again in the order of its turns.
pub mod SameSteps
pub mod Trunks
pub mod NextSteps
pub mod Between
pub mod Within
pub mod Settles
pub mod Granted
pub mod Begins
pub mod Runs
