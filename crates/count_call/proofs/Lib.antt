mod Accepted
mod Filling
mod Told
mod Worked
