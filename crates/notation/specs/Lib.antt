-- The definitions of this crate: what a reader must believe, and worked cases of it.
pub mod Number
pub mod NumberCases
pub mod Pairs
pub mod PairsCases
pub mod Mac
pub mod MacCases
pub mod Pci
pub mod PciCases
pub mod Address
pub mod AddressSteps
pub mod AddressCases
pub mod Escape
pub mod EscapeWalk
pub mod EscapeCases
pub mod Value
