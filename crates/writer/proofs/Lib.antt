pub mod FrontLaws
pub mod TableLaws
pub mod PartLaws
pub mod WholeLaws
