pub mod Cleared
pub mod Entries
pub mod Filled
pub mod Front
pub mod Half
mod Masked
pub mod Passed
pub mod Rowed
pub mod Same
