pub mod Rules
pub mod Meaning
pub mod Jobctl
pub mod Jobd
pub mod Forms
