pub mod Looking
pub mod Reading
