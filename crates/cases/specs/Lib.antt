pub mod Worked
pub mod Caller
