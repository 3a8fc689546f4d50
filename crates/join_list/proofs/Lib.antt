pub mod Ending
mod Going
pub mod Outcome
mod Pairing
