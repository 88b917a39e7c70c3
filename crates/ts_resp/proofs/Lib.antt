pub mod StartLemmas
pub mod LineLemmas
pub mod HeaderLemmas
pub mod BegunLemmas
pub mod WordLemmas
pub mod TextLemmas
pub mod ScanLemmas
pub mod TextWordLemmas
pub mod WrittenLines
pub mod ReplyLemmas
mod OrderLemmas
pub mod PairLemmas
mod PartLemmas
