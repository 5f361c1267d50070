-- The theorems' proofs, each file named after its statements.
pub mod Ids
pub mod Guests
pub mod Tasks
pub mod Acceptances
pub mod Capacities
pub mod LongRuns
pub mod StoredCapacity
-- What a quoted task keeps of a state, at the start and over ticks and releases.
pub mod Kept
pub mod Quoted
