-- The definitions of this crate: what a reader must believe, and worked cases of it.
pub mod Pairs
pub mod Points
pub mod Differences
pub mod Compare
pub mod Walk
pub mod Promises
pub mod Computing
pub mod CompareCases
pub mod TableCases
