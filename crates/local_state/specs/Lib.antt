pub mod Rows
pub mod Counting
pub mod Wants
pub use Rattle.router_rules.specs.Books
