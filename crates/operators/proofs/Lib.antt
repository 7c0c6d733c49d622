-- Callers use Laws alone; the rest is the inside of the lookups.
mod Lists
mod AllKinds
mod Places
mod Rules
pub mod Laws
