pub mod Store
pub mod Buffers
pub mod Marks
pub mod Fits
pub mod Rows
pub mod Kept
