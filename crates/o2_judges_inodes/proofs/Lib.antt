pub mod ClustersTold
pub mod LinksTold
pub mod MetRows
pub mod OrphansTold
pub mod RowsTold
pub mod TotalsKept
pub mod WrappedSums
