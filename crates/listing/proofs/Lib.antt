-- The laws that the proofs of several functions cite; then what is promised, and the laws behind it.
pub mod Lengths
pub mod Lines
pub mod Pieces
pub mod Laws
pub mod Promises
