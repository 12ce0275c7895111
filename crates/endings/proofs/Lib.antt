pub mod Turns
mod Inserting
