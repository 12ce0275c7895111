pub mod Nexts
pub mod HeadRanges
pub mod Filling
