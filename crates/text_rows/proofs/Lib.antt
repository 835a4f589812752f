pub mod FieldLemmas
pub mod ReachedLemmas
pub mod ReadLemmas
pub mod RoundTripLemmas
pub mod WrittenLemmas
