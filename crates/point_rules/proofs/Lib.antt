pub mod Becoming
mod Entry
pub mod Turns
