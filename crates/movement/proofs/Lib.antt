pub mod TermTables
pub mod Sides
pub mod Fitting
