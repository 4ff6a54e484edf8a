-- What the crate's contracts cite, and what the whole build shares. What is promised stands in proofs/Promises.antt.
pub mod Answers
pub mod Passing
pub mod Wire
pub mod Damage
