pub mod Known
pub mod EncodeLaws
pub mod LoadLaws
pub mod RuleLaws
pub mod FreshLaws
pub mod MethodLaws
pub mod ReaderLaws
