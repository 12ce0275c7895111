pub mod Stages
pub mod HeadLines
pub mod ChooserLines
pub mod CallLines
