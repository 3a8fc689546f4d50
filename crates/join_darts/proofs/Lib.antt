pub mod Going
pub mod Listing
pub mod Narrowing
mod Seeing
