-- The definitions of this crate: what a reader must believe, and worked cases of it.
pub mod Readings
pub mod Login
pub mod Promises
pub mod Computing
pub mod LayoutCases
pub mod ReadingCases
pub mod WideCases
