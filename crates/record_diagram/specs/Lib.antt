pub mod SeenAt
pub mod Steps
