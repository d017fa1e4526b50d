pub mod MissingLaws
pub mod WalkLaws
pub mod Standing
pub mod Reading
