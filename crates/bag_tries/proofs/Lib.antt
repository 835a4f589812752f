pub mod Hands
pub mod Lifts
pub mod Adding
pub mod Searching
pub mod Settling
pub mod Ends
pub mod Gathering
