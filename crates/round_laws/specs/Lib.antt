pub mod Marks
pub mod RoundMarks
pub mod Receiving
pub mod Following
pub mod Called
pub mod DueStarts
pub mod Outside
pub mod BeforeClocks
