-- The definitions of this crate: what a reader must believe, and worked cases of it. docs/RECORD-FORMAT.md has them in words.
pub mod Fields
pub mod Value
pub mod Enter
pub mod Entering
pub mod Steps
pub mod Tell
pub mod Computing
pub mod EnterCases
pub mod TellCases
pub mod Promises
