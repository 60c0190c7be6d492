pub mod Programs
pub mod RunNames
