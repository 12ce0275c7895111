pub mod RuleFacts
pub mod Histories
pub mod Opacity
pub mod Soundness
pub mod Permissiveness
pub mod Promise
pub mod Examples
