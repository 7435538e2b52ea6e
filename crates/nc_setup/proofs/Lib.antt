mod Told
mod Stopping
mod Refusing
