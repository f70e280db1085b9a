pub mod TreeWalked
