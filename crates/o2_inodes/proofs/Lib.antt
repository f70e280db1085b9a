pub mod DirectoriesTold
pub mod IndexesTold
pub mod ListsTold
pub mod Surveyed
