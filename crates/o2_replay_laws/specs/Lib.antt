pub mod FourImages
