pub mod BoardLaws
pub mod FilledLaws
pub mod RowLaws
