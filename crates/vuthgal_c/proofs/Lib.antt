mod ProgramPlans
mod Words
mod Faults
pub mod Values
mod Conversations
mod Behind
mod Results
mod Events
mod Mistaken
