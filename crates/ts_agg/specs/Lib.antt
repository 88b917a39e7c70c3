pub mod Amounts
pub mod Counted
pub mod FaultNames
pub mod Names
pub mod Running
pub mod Tally
