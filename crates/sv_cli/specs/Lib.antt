pub mod TextTrees
pub mod Due
pub mod Answered
pub mod Headline
pub mod DueLaw
pub mod KeywordLaw
pub mod Unread
