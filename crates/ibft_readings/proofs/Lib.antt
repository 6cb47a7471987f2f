pub mod ReadingLaws
pub mod LoginLaws
