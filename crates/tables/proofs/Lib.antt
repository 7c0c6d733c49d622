mod Programs
mod Damaged
mod Decisions
mod Strict
mod Places
mod Steady
mod Retired
