pub mod Texts
pub mod Reports
pub mod AdspecText
pub mod Quotes
pub mod Places
pub mod Blamed
