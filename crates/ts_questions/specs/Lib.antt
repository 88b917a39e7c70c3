pub mod Answering
pub mod Asking
pub mod Bounds
pub mod GroupQuery
pub mod Members
pub mod RowTexts
