-- What the contracts of this crate's private functions say. What a rebuild is and what it promises stands in ibft_build_rules:
-- Rebuild, RebuildPromises.
pub mod Writing
