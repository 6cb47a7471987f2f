-- The definitions of this crate: what a reader must believe, and worked cases of it.
pub mod Layout
pub mod Shapes
pub mod Computing
