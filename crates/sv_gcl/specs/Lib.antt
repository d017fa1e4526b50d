pub mod Commands
pub mod CommandShapes
pub mod FormedCommands
pub mod WorkedRuns
