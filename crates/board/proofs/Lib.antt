pub mod ScanLaws
pub mod NextLaws
pub mod FillLaws
pub mod FoldLaws
pub mod StateLaws
pub mod SourceLaws
