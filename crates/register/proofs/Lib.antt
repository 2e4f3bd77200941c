mod Alike
mod Parts
mod Places
pub mod Sums
pub mod Zeros
pub mod TableRows
