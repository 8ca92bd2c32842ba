pub mod ByteLaws
pub mod ReadLaws
pub mod PutLaws
pub mod WriteLaws
pub mod BackLaws
pub mod RangeLaws
pub mod StateLaws
