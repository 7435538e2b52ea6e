mod Cuts
mod Named
mod Feeds
mod Mores
mod Bodies
mod Firsts
mod Namings
mod Ahead
