pub mod Places
mod Limited
mod Written
mod Lending
pub mod Readable
pub mod Ends
pub mod Outcomes
pub mod Sheets
pub mod Demand
pub mod Listing
pub mod Known
pub mod Settings
pub mod Starred
pub mod Exactly
pub mod Within
pub mod First
pub mod Few
