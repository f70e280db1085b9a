pub mod Names
pub mod Numbers
pub mod Skeleton
pub mod SkeletonTables
