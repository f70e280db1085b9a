-- ---- words
pub mod Words
pub mod Orders
pub mod Faults
-- ---- the volume in an image
pub use Rattle.o2_disk.specs.Image
pub mod Superblock
pub mod Label
pub mod Features
pub mod Geometry
pub mod Volume
-- ---- clusters
pub mod Clusters
pub mod ClusterGroups
-- ---- what an inode has
pub mod Extents
pub mod LeafRecords
pub mod Inodes
pub mod Directories
pub mod Contents
-- ---- the volume's own files
pub mod SystemFiles
pub mod Allocators
pub mod Groups
pub mod Journals
pub mod Windows
pub mod TruncateLogs
-- ---- what users have
pub mod Tree
pub mod Files
-- ---- metadata of files and directories
pub mod Metadata
pub mod RefcountTrees
pub mod Indexes
pub mod SoundIndexes
-- ---- who needs which cluster and block
pub mod Claims
pub mod Owned
-- ---- the checks
pub mod FirstFault
pub mod Checks
pub mod Failing
pub mod Structures
pub mod Names
pub mod Consistent
-- ---- logs
pub mod LogGrammar
pub mod Logs
-- ---- replays
pub mod Dirty
pub mod Anchors
pub mod Replay
pub mod AfterReplay
pub mod TornReplays
pub mod Recoverable
-- ---- what a repair must keep
pub mod Intact
