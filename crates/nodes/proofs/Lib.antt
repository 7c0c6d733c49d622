-- What callers cite.
pub mod Laws
pub mod Operating
pub mod Deciding
pub mod Calling
