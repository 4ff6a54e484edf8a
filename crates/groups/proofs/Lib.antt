-- Laws that only the proofs of functions need; then the laws behind the promises, the promises and the figures.
pub mod Views
pub mod Walks
pub mod Keys
pub mod Search
pub mod Pictures
pub mod Telling
pub mod Between
pub mod Laying
pub mod Laws
pub mod Promises
pub mod Figures
