pub mod FailsMore
