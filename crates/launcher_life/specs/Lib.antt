pub mod Life
