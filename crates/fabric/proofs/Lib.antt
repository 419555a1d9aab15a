pub mod AfterStep
pub mod Standings
pub mod Trunks
pub mod Methods
