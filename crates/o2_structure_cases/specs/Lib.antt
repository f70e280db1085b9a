pub mod SmallSlots
pub mod BackupVolume
pub mod HandMadeTree
