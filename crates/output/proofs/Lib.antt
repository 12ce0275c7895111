pub mod Writing
pub mod Pieces
pub mod Papers
pub mod Lent
pub mod Commas
