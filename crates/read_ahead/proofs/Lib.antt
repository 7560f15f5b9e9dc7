pub mod Cut
pub mod Finding
