pub mod VerdictLaws
pub mod HeaderLaws
pub mod JudgesLaws
pub mod WriteLaws
pub mod SealedLaws
pub mod PlaceLaws
