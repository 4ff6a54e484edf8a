-- What callers in C are told, in document 01's numbers, and what is left of what they lend.
pub mod Calls
pub mod OneGroup
