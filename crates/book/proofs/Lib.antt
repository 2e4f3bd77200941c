pub mod Totals
pub mod Payments
pub mod Openings
pub mod Soundness
pub mod Trades
pub mod Finding
pub mod Ordering
