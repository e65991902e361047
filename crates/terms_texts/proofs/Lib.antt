pub mod TermsLaws
pub mod TermsFronts
pub mod StoreLaws
pub mod ReadFaults
pub mod Written
