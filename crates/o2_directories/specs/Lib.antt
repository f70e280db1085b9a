pub mod MetNames
