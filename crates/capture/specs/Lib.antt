-- The letters in document 01's terms; what the contracts of the crate cite.
pub mod Letters
