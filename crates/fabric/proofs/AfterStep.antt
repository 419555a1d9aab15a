-- The node after a step.
pub mod LinkSteps
pub mod NodeAtALink
pub mod BringingSteps
pub mod QueuePositions
pub mod Effects
pub mod OtherNodes
pub mod OpeningsAndClosings
pub mod Tables
pub mod NodeOffTheLinks
pub mod Pendings
pub mod EndpointsStay
pub mod Takings
