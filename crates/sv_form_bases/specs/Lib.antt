pub mod EdgeGraphs
pub mod BaseEdges
