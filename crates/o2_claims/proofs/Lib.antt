pub mod FirstOwners
pub mod FirstBetween
pub mod Gaps
pub mod Keys
pub mod Numbers
