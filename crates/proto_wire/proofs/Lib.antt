mod Examples
pub mod FieldTrip
pub mod NumberLemmas
pub mod OneofLemmas
pub mod ReadingLemmas
pub mod RoundTrip
pub mod VarintLemmas
pub mod WalkLemmas
