pub mod Draft
pub mod Fixed
pub mod Content
pub mod Limits
pub mod Lines
pub mod Loading
pub mod Record
pub mod RecordReplay
