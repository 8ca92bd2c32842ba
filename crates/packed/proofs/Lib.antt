pub mod PackLaws
pub mod StartLaws
