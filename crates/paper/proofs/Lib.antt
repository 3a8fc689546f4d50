mod Marked
pub mod Opened
pub mod Worked
