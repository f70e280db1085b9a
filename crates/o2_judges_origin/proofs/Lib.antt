pub mod BitsOfBlocks
pub mod FlatMaps
pub mod GroupsFound
pub mod OneOfGroups
pub mod OriginsTold
pub mod PlacesKept
pub mod SuballocTold
