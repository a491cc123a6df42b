mod Counts
mod OfPath
mod TrueParts
