pub mod Meaning
pub mod Stride
pub mod Script
pub mod Lawful
