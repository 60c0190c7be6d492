pub mod MemoryAnswers
