pub mod Ends
pub mod LoadOfBytes
pub mod Taking
