pub mod Lists
pub mod Numerals
pub mod Counts
pub mod Cuts
pub mod Calls
pub mod Settled
