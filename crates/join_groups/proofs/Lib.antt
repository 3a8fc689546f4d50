pub mod Entries
mod Finding
mod Grouping
mod Pairing
mod Regrouping
mod Sharing
mod Standing
mod Stopping
mod Walking
