pub mod ExprViews
pub mod StmtViews
pub mod Sizes
