pub mod Judging
pub mod Reading
