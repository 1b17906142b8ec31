-- compare_exchange HEAD (lock).
pub mod Lockable
pub mod NextPosition
pub mod OwnWrites
pub mod LockedLog
pub mod LockedPositions
pub mod LockWon
pub mod LockHead
