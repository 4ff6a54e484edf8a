-- The laws behind the promises. Nobody has to believe them: they are checked.
pub mod Sheets
pub mod Balance
pub mod Bound
pub mod Views
pub mod Memory
pub mod Calls
pub mod Accounts
pub mod Behind
pub mod Numbers
pub mod Rounds
pub mod Refusals
