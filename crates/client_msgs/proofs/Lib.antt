mod Examples
pub mod HoldsLemmas
pub mod MemberLemmas
pub mod ReadOn
pub mod RoundTrip
pub mod SizesLemmas
pub mod StrictLemmas
