pub mod EventLaws
pub mod HistoryLaws
