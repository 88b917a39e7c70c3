pub mod Accepted
pub mod AdditionLemmas
pub mod FixedLemmas
pub mod Putting
pub mod Taking
pub mod TripleLemmas
mod RecordsAtWork
mod LoadingAtWork
pub mod Numbers
mod LabelWords
mod Readable
mod ReadableOptions
mod ReadableChanges
mod ReadableCommands
mod Among
mod Costs
mod Lengths
mod OptionCosts
mod ChangeCosts
mod CommandCosts
pub mod Fitting
mod OptionWords
mod OptionsRead
pub mod ReadBack
mod ShortAnswers
mod TakenTriples
pub mod Replays
pub mod Unfinished
pub mod Almost
pub mod Rests
pub mod Loads
pub mod Grown
pub mod Unrecorded
pub mod FrontsLoad
