pub mod Delivered
pub mod Limits
pub mod Placed
pub mod Renumbered
pub mod Terms
