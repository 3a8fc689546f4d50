pub mod Chasing
mod Counting
pub mod Leading
pub mod Sharing
pub mod Sides
mod Treating
