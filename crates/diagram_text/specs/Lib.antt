pub mod Taken
pub mod Pens
pub mod Agendas
pub mod Drawable
pub mod Parts
pub mod Programs
