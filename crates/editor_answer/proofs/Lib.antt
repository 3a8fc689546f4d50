mod Asking
mod Owning
