pub mod EntryPlaces
pub mod BlockSlots
pub mod EmptiedVolumes
pub mod FirstClusters
pub mod Headers
pub mod Judged
