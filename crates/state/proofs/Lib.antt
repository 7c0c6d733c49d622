-- What callers cite.
pub mod Noting
