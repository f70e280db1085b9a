pub mod QueryRun
pub mod Replies
