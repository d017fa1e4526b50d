pub mod Cuts
pub mod DueText
pub mod HeadlineProof
pub mod Lines
pub mod OneDue
pub mod OneVerdict
pub mod ReadText
pub mod TextLimit
