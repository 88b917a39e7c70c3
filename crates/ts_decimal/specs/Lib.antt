pub mod Digits
pub mod Grammar
pub mod Laws
pub mod Leading
pub mod Printing
pub mod Reading
