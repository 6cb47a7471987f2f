-- The definitions of this crate: what a reader must believe, and worked cases of it.
pub mod Put
pub mod Split
pub mod SplitCases
pub mod Words
pub mod WordsCases
pub mod Computing
