pub mod LeavesTold
