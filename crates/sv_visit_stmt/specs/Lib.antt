pub mod StmtSites
