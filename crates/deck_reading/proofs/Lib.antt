pub mod Filling
pub mod One
mod Outcomes
pub mod Verdicts
mod Worked
