pub mod AbftLaws
pub mod CheckLaws
pub mod PlaceLaws
pub mod ReadingLaws
