pub mod Behind
pub mod Carrying
pub mod Staying
