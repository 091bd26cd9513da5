pub mod ThreadSet
pub mod Waits
pub mod ShownWaits
pub mod Barrier
pub mod Fields
pub mod PlainBarrier
pub mod Past
pub mod WhoWaits
