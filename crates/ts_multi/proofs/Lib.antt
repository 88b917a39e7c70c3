pub mod Texts
pub mod LabelLists
