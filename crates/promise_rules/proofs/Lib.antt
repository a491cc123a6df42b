mod Upto
mod Stretch
mod Standing
