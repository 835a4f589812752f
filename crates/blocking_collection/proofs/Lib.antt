pub mod Doing
pub mod Places
pub mod Trying
pub mod Rounds
pub mod Still
