pub mod AllocatorRows
pub mod ApartGroups
pub mod ChainSums
pub mod ClusterRows
pub mod GroupRows
pub mod MetadataRows
