mod Orders
mod Said
mod Sounds
