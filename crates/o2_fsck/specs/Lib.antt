pub mod Reports
pub mod Verdicts
pub mod Judged
pub mod Ends
pub mod CheckRun
