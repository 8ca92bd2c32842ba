pub mod TableLaws
pub mod ListLaws
pub mod CopyLaws
pub mod NumberLaws
pub mod FromFn
