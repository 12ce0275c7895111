pub mod Logs
pub mod Starting
