pub mod RowLaws
pub mod PaddedLaws
pub mod FlatLaws
pub mod LoadLaws
pub mod StoreLaws
