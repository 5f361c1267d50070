-- Laws of the dispatcher's states, each file named after the definitions that it is about.

-- What the windows see of a state, and what a tick does to it.
pub mod Seen
pub mod Served
pub mod Tick
pub mod GuestTick
pub mod TaskTick
pub mod Answer
-- States that are not refused, and have their shape.
pub mod Ranges
pub mod Valid
pub mod Shape
pub mod Release
pub mod Sound
pub mod Fresh
-- The calls, refused or not.
pub mod Entries
pub mod Usage
