pub mod LevelsMet
pub mod LinksCounted
pub mod MetInodes
pub mod RowsMet
