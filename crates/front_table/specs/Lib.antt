pub mod Chronicle
pub mod TokenView
