pub mod LayoutLaws
pub mod ReadingLaws
pub mod PutLaws
pub mod SbftLaws
pub mod CheckLaws
pub mod PlaceLaws
pub mod RecordLaws
