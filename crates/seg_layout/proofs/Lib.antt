pub mod Firsts
pub mod Powers
pub mod Worked
