-- Why a guest's view does not depend on others: a relation of states that a tick and a release keep, and whole
-- histories.
pub mod First
pub mod Alike
pub mod Tick
pub mod Told
pub mod Release
pub mod Fresh
pub mod Followed
pub mod Sheet
pub mod View
-- The promise.
pub mod Independence
