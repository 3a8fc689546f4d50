pub mod Drawn
mod Taking
