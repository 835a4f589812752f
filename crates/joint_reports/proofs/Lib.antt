pub mod Weights
pub mod Permutations
pub mod Parting
pub mod Joints
pub mod Reaching
pub mod Outcomes
