mod Shadow
mod Events
mod Taken
mod Contents
mod Ends
