pub mod Addings
pub mod ClaimsTold
pub mod Dups
pub mod Inside
pub mod Lists
pub mod Members
pub mod Togethers
