pub mod LineLaws
pub mod LineSizeLaws
