pub mod RangeWriteLaws
pub mod RebuildLaws
