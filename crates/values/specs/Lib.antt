pub mod Forms
pub mod Kinds
pub mod ReadsBack
pub mod KindLaws
