mod Afresh
mod Answering
mod ByList
mod Cleared
pub mod Doing
