-- How few images tell whether a replay may be started again.
pub mod SameDirectory
pub mod SameJournal
pub mod Written
pub mod OneSlot
pub mod CanReplay
pub mod SameRead
pub mod WholeWrites
pub mod Alike
pub mod AlikeParts
pub mod TornBlocks
pub mod SuperKept
pub mod ChosenImage
pub mod ChosenVolume
pub mod ReplayedSectors
pub mod OneTransaction
pub mod Choice
pub mod FourTell
