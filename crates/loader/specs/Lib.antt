pub mod Named
pub mod Declarations
pub mod Program
pub mod Fault
pub mod Fields
pub mod FaultNumber
