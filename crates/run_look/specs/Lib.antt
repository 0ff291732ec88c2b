pub mod Looking
pub mod Pages
pub mod Text
