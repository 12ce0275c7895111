pub mod Accepting
pub mod Changing
pub mod Lending
