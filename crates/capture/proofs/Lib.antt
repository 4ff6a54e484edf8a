-- The laws about the letters, what is promised of them, and what a line takes of a piece.
pub mod Laws
pub mod Promises
pub mod Pieces
