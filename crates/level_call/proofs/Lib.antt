pub mod Paper
mod Refused
pub mod Tables
