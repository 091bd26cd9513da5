pub mod Blanks
mod Drawings
mod Fronts
mod Naming
mod NoPicture
mod Pages
pub mod PlanParts
pub mod ListedRows
pub mod WrittenChoices
mod Written
pub mod Counting
pub mod Seeded
pub mod Reports
pub mod Reported
pub mod ShownSchedules
