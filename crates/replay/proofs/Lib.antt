mod Sums
mod Fronts
mod Cutting
mod Examples
