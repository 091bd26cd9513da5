pub mod Expectation
