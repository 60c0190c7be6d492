pub mod ShownLemmas
pub mod WrittenLemmas
pub mod MomentExamples
