pub mod Dice
pub mod Rules
pub mod Seeds
pub mod Orders
