pub mod Failures
pub mod Pending
pub mod Reading
pub mod Bounds
pub mod Results
pub mod Spelled
pub mod Printed
pub mod Agreement
