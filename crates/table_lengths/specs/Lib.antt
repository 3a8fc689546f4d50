pub mod Given
pub mod Lengths
