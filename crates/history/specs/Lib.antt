pub mod Step
pub mod History
pub mod Statement
pub mod Law
