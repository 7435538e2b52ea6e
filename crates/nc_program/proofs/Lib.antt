mod Doing
mod Running
mod Sent
