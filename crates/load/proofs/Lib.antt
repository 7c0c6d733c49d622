pub mod Cases
pub mod Rule
pub mod Legible
pub mod Steadiness
pub mod Conversion
