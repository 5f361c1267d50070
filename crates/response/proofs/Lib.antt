-- Laws, each file named after the definitions that it is about, with the ending Laws: a folder of proofs has the source
-- file's name.
pub mod GuestLaws
pub mod TaskLaws
pub mod MetLaws
pub mod GapsLaws
pub mod ServersLaws
pub mod ColumnsLaws
pub mod ReadyLaws
pub mod SeatLaws
pub mod PlacedLaws
