mod TableLemmas
pub mod OptionLemmas
pub mod ListLemmas
pub mod LabelLemmas
pub mod RangeLemmas
pub mod AnswerLemmas
mod AddLemmas
