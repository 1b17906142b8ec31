-- Locking and aborting.
pub mod lock_head
pub mod unlock_head
