pub mod Words
pub mod FedLines
