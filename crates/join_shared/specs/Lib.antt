pub mod Led
pub mod Mapped
