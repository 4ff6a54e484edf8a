-- Laws that only the proofs of functions need; then what is promised at the boundary.
pub mod Telling
pub mod Bytes
pub mod Promises
pub mod CallContracts
