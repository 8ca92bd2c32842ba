pub mod ScriptLaws
pub mod RunLaws
pub mod StartLaws
