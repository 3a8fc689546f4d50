pub mod Cards
pub mod Every
pub mod Outcomes
pub mod Parts
pub mod Table
mod Worked
