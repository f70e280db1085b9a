pub mod ClusterRows
pub mod LinkRows
pub mod OrphanRows
