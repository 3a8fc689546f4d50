pub mod Corner
pub mod Tops
