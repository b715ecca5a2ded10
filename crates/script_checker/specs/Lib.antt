pub mod Forms
pub mod Checked
