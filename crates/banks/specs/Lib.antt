pub mod Refusals
pub mod Counting
pub mod Meaning
pub mod Calls
