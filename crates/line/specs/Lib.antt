-- The frame rules and the line in document 01's terms, with the frame numbers of document 02; the same on the code's own
-- numbers. What is promised stands in proofs/Promises.antt.
pub mod Symbols
pub mod Rules
pub mod Lines
pub mod Between
pub mod Entries
pub mod FrameNumbers
pub mod ByBytes
pub mod Longest
pub mod Numbers
pub mod State
pub mod Steps
pub mod Runs
pub mod Views
