pub mod RunReports
pub mod Reasons
