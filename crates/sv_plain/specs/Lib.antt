pub mod PlainExprs
pub mod ExprFolds
pub mod PlainStmts
pub mod ShownExprs
