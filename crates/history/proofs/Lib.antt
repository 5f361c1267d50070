-- Laws, from single ticks and runs up to the promises over histories.

-- Histories: single ticks, runs, and what every history keeps.
pub mod Ticks
pub mod Play
pub mod Sheets
pub mod Told
pub mod Stays
pub mod Refused
pub mod Since
pub mod Clocks
pub mod ByState
pub mod Causes
pub mod Again
pub mod Settings
-- The invariants that are kept.
pub mod Share
pub mod Answered
pub mod Accounts
pub mod Usage
pub mod Capacity
pub mod Finished
pub mod InTime
-- The promises.
pub mod Sure
pub mod ByX
pub mod ByResponse
pub mod Above
pub mod FinishedBy
pub mod NeverLate
pub mod NeverTurnedAway
pub mod Positions
pub mod Pairs
pub mod Times
