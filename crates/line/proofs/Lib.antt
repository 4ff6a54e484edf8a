-- Laws that only the proofs of functions need; then the laws behind the promises, and the promises.
pub mod Feeding
pub mod InRows
pub mod Laws
pub mod Promises
pub mod Views
