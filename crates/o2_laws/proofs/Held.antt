-- Which blocks are held, and what they tell of a volume on which nothing fails.
pub mod LastingClaims
pub mod HeldBlocks
pub mod GroupsHeld
pub mod BitsHeld
pub mod DataHeld
pub mod HeldTells
pub mod OwnInodes
pub mod HeldTables
pub mod HeldDirectories
pub mod HeldTree
pub mod HeldFiles
pub mod HeldImages
