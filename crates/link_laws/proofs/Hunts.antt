-- Pending hunts.
pub mod Questions
pub mod OtherSteps
pub mod EachStep
pub mod ManySides
pub mod OneSide
pub mod UnfoundPeers
pub mod UnfoundNames
