-- Laws: of a solution, of a task's equation, of the search that climbs to a solution and may start warm, of two systems
-- compared and alike, of an interval halved; one instance.
pub mod Solve
pub mod System
pub mod Rise
pub mod Side
pub mod Done
pub mod Standing
pub mod Climb
pub mod Warm
pub mod Compare
pub mod Respond
pub mod Alike
pub mod Halve
pub mod Instance
