pub mod RecordLaws
pub mod RefusalLaws
