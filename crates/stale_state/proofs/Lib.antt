pub mod Interfaces
pub mod Listing
pub mod Admission
pub mod Looking
pub mod Booking
pub mod Answering
