pub mod Reading
pub mod Splitting
pub mod Decimals
