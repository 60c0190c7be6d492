mod FailingExamples
mod RowsLemmas
