mod ImageLogs
mod RunLogs
mod Fitted
mod FoundLogs
