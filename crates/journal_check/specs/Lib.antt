pub mod Earliest
pub mod Faults
pub mod Standings
pub mod Calls
pub mod Brought
pub mod Tables
pub mod Told
pub mod Words
