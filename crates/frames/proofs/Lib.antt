pub mod Chunks
pub mod Digits
pub mod Feeding
pub mod Fields
pub mod Pairs
pub mod Reading
pub mod Streams
pub mod Texts
