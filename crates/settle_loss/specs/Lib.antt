pub mod RefreshedPaths
pub mod RefreshedResvs
pub mod Example
