-- The definitions of this crate: what a reader must believe, and worked cases of it.
pub mod Packed
pub mod Laid
pub mod Puts
