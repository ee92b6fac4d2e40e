pub mod DecimalLaws
pub mod StoreLaws
pub mod RowsLaws
pub mod TextLaws
pub mod Examples
