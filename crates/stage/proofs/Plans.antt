-- Runs as planned, and of one state.
pub mod SameTrunks
pub mod OneRun
pub mod OneState
pub mod EachStep
pub mod PlannedAlike
pub mod PumpsRule
