pub mod FlagWords
