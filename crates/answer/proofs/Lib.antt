pub mod Outcome
pub mod Tested
