pub mod Directories
pub mod Indexes
pub mod InodeReads
pub mod InodeSurveys
