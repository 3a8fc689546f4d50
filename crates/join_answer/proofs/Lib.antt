pub mod Asking
pub mod Judging
