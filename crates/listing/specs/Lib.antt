-- The listing in document 01's terms; what the contracts of the program's functions cite. What is
-- promised stands in proofs/Promises.antt.
pub mod Listing
pub mod Shown
pub mod Parts
