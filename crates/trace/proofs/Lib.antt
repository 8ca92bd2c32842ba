pub mod Cases
pub mod InputLaws
pub mod RunLaws
