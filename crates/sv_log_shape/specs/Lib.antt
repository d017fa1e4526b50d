pub mod LoggedShapes
