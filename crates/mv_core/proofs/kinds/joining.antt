-- Joining a seat.
pub mod Between
pub mod NotedSeat
pub mod Join
pub mod JoinedPasts
pub mod LoadJoined
