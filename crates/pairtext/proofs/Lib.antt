pub mod RowLaws
pub mod Soundness
pub mod TextLaws
pub mod Written
pub mod Accepted
pub mod Accepting
pub mod SampleLaws
pub mod PairTextLaw
