-- Each step as a method of the fabric makes it.
pub mod Calls
pub mod LooksInVain
pub mod Keeps
pub mod Legal
pub mod QuietSteps
pub mod AllSteps
pub mod Marks
pub mod StepsOnLinks
pub mod Openings
pub mod Packets
pub mod Runs
pub mod Restarts
pub mod FieldsOfFabric
pub mod KernelAndLine
pub mod Ticks
pub mod Unchanged
