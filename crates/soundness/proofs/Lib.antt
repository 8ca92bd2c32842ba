pub mod DistinctLaws
pub mod TestedLaws
pub mod CountLaws
pub mod ClauseLaws
