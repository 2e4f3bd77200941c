pub mod Numbers
pub mod Answering
pub mod Booking
pub mod Amounts
pub mod Counts
pub mod Lawfulness
pub mod Histories
