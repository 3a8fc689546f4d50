pub mod Climb
mod Deepening
pub mod Fall
