pub mod CutLaws
pub mod FieldLaws
pub mod FoldLaws
pub mod LineLaws
pub mod NumeralLaws
pub mod PlaceLaws
pub mod DigitLaws
