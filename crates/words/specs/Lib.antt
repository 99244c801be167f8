pub mod Kinds
pub mod Refusals
pub mod Words
pub mod Steps
pub mod Worked
