pub mod MissingLaws
pub mod CoverLaws
pub mod AdmissionLaws
