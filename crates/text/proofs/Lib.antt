pub mod PutLaws
pub mod LeftLaws
pub mod SplitLaws
pub mod WordsLaws
pub mod WordSetLaws
