pub mod Endings
pub mod FaultCauses
pub mod Lines
pub mod Modes
