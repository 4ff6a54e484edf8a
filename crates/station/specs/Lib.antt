-- The calls and the sheet in document 01's words; how a station lies in the caller's memory; what callers see of a list
-- of calls. The demands stand in proofs/Demands.antt.
pub mod Records
pub mod Memory
pub mod Numbers
pub mod Lines
pub mod Stations
pub mod Sheets
pub mod Rounds
pub mod Reading
pub mod History
pub mod OneLine
pub mod Due
pub mod Parts
pub mod CallContracts
