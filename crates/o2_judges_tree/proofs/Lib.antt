pub mod DotsTold
pub mod EntriesTold
