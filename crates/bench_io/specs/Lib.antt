-- The definitions of this crate: what a reader must believe.
pub mod Words
