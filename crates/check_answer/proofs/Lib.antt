pub mod Given
mod Worked
