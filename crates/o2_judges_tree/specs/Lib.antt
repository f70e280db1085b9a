pub mod EntryFaults
