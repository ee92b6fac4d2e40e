pub mod OrderLaws
pub mod OutcomeLaws
pub mod CallLaws
pub mod ReaderLaws
