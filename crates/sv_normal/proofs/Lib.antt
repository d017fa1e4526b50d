pub mod NormalParts
