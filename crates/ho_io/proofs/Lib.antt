pub mod WholeLemmas
pub mod PlaceLemmas
