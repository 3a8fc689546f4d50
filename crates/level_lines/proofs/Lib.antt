mod Beheld
pub mod Paper
pub mod Pointing
