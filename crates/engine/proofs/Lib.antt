pub mod Lists
pub mod Phases
pub mod Sound
pub mod Kept
pub mod Steps
