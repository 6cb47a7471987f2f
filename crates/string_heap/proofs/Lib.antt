pub mod Intervals
pub mod TailsLaws
pub mod SameLaws
pub mod StoredLaws
pub mod HolderLaws
pub mod ApartLaws
pub mod StartsLaws
pub mod CutLaws
