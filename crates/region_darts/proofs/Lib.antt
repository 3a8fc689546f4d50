pub mod Along
mod Chain
pub mod Group
mod Linking
mod Listing
mod Size
