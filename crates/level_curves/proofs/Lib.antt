mod Linking
pub mod Paper
pub mod Running
