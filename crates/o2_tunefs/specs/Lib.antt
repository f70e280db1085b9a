pub mod Answer
pub mod LabelRun
