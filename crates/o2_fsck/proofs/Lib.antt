pub mod PairLines
pub mod DeviceChecked
pub mod Runs
