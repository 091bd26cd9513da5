mod Wholes
pub mod LineEnds
pub mod Traces
pub mod Plays
pub mod Playing
pub mod Schedules
pub mod Streams
pub mod WholeLines
pub mod FirstWords
pub mod Naming
pub mod NamedChoices
pub mod StateLines
pub mod Words
pub mod Starting
