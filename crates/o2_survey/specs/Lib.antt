pub mod SystemNames
pub mod AllocatorRows
pub mod SystemInodes
pub mod GroupRows
