mod CoresLemmas
mod ClientEvents
pub mod ClosingLines
mod Own
mod Framed
mod Lookups
mod NewestAnswer
mod Handed
mod Understood
mod Happening
mod Telling
mod Rolling
mod Leaving
mod EventLines
pub mod Named
mod Waiting
mod Queued
mod Kept
mod Delivering
mod Enlisting
mod Hellos
mod Starting
mod Before
pub mod Pieces
pub mod Playing
pub mod Recorded
mod Running
mod Beginning
