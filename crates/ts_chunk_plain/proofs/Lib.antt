pub mod Coding
pub mod Examples
pub mod Pushing
pub mod Reading
pub mod Scanning
pub mod Splicing
pub mod Walking
