pub mod Cases
pub mod LineLaws
pub mod PrintedLaws
