pub mod States
pub mod Settlings
pub mod Turns
pub mod Rounds
pub mod FixedOrder
pub mod Makers
pub mod Orders
