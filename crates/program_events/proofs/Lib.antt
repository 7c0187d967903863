mod Room
mod Pending
