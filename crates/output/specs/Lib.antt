pub mod Laid
pub mod Lines
pub mod Papers
pub mod Pieces
pub mod Lent
