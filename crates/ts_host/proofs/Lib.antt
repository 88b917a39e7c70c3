pub mod Answering
mod AnsweredItems
mod Contents
mod Endings
mod Going
mod Lines
mod NextItems
mod Recordings
mod Running
mod Stepping
mod Stretches
mod WholeRuns
