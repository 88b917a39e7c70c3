pub mod LabelLemmas
pub mod PairLemmas
pub mod SameLemmas
pub mod TextLemmas
pub mod ValueLemmas
