-- Laws that only the proofs of functions need; then the laws behind the demands, the demands and the figures.
pub mod Copying
pub mod Inboxes
pub mod Openings
pub mod Turns
pub mod Entries
pub mod Serving
pub mod Typed
pub mod Rounding
pub mod RowsServing
pub mod Laws
pub mod Demands
pub mod Figures
pub mod Fixed
pub mod CallContracts
