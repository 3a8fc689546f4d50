pub mod Card
pub mod Outcome
