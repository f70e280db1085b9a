pub mod CoversTold
pub mod PairsTold
pub mod Ranges
pub mod RowsTold
pub mod TimesTold
pub mod TreesTold
