-- One direction of a link: what is in flight, and what it weighs.
pub mod Counting
pub mod PacketsEnd
pub mod Flows
pub mod Measures
pub mod Lowering
pub mod Moves
pub mod InOrder
pub mod AllSent
pub mod Steps
pub mod Weights
