pub mod Named
pub mod Cut
pub mod Open
pub mod Walking
pub mod Opened
pub mod Sets
pub mod Marked
pub mod Unmarked
pub mod Used
pub mod Idle
mod Said
mod Listed
mod Cleared
pub mod Sent
pub mod Still
