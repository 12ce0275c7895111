pub mod Accounts
pub mod Ranges
pub mod Filling
pub mod Reading
