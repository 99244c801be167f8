pub mod Faults
pub mod Texts
pub mod Spelling
pub mod Lines
pub mod Told
pub mod Settled
pub mod Whole
