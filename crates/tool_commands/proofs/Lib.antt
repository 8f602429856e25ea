pub mod AtAllAnswers
pub mod AtAnswers
pub mod BoundsAnswers
pub mod CheckAnswers
pub mod ElfAnswers
pub mod InferAnswers
pub mod MapAnswers
pub mod ResponseAnswers
pub mod SharesAnswers
pub mod OneAnswer
pub mod OrtiAnswers
pub mod PictureAnswers
pub mod RunAnswers
pub mod SourceAnswers
pub mod WaveAnswers
mod ShortFiles
mod Tasks
pub mod UnusedAnswers
pub mod LabelsAnswers
