-- The definitions of this crate: what a reader must believe, and worked cases of it.
pub mod Fields
pub mod Value
pub mod Family
pub mod Enter
pub mod Entering
pub mod Tell
pub mod Promises
pub mod Computing
pub mod FamilyCases
pub mod EnterCases
pub mod TellCases
