pub mod OwnLaws
pub mod LimitLaws
