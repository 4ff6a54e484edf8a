-- Laws that the proofs of this crate need; then what is promised, and the laws behind it.
pub mod Counting
pub mod WireLaws
pub mod Promises
