pub mod RowsLaws
pub mod CopyLaws
pub mod RecordsLaws
pub mod LoopLaws
pub mod MergeLaws
