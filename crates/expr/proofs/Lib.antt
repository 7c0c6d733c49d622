pub mod Rows
mod Leaving
mod Telling
mod Valuing
mod Looping
mod Listing
mod Pairing
mod Bounding
mod Calling
mod Operation
mod Arguing
mod Streaming
mod Arms
