pub mod Numbers
pub mod Questions
pub mod Refusals
