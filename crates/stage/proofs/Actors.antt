-- What an actor does in its turn.
pub mod Asks
pub mod Going
pub mod Idling
pub mod Steps
pub mod Turns
pub mod Waiting
