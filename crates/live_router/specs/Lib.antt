pub mod Bounded
pub mod BoundedLaws
pub mod SeenNode
pub mod Living
pub mod Leaving
