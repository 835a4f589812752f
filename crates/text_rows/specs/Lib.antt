pub mod Readers
pub mod RoundTrip
pub mod Rows
pub mod Writers
pub mod Written
