pub mod Tasks
pub mod Sound
pub mod State
pub mod Refusals
pub mod Calls
pub mod Runs
