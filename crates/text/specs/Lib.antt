pub mod Numbers
pub mod Split
