mod Adding
pub mod Paper
mod Tallying
