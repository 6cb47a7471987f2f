pub mod FieldsLaws
pub mod ValueLaws
pub mod WidthLaws
pub mod LinesLaws
pub mod EnterLaws
pub mod FieldFitsLaws
pub mod HeldLaws
pub mod TellLaws
