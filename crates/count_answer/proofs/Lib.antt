mod After
pub mod Outcome
