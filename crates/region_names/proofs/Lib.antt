mod First
mod Neighbour
pub mod Room
pub mod Surround
