-- What stays where every guest is made Periodic: the records, then solutions, then verdicts.
pub mod Records
pub mod Interference
pub mod Verdicts
pub mod Worked
