-- Why choices are right: a guest under guests that take less, then guest by guest.
pub mod Less
pub mod Stages
pub mod Capacities
pub mod Worked
