pub mod WholeImages
