mod Answering
mod Starting
