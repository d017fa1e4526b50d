pub mod LogExamples
