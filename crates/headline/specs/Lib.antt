pub mod Headline
pub mod Pasts
pub mod PhaseEnds
pub mod Playing
pub mod EndToEnd
