-- store HEAD (abort).
pub mod UnlockedLog
pub mod UnlockHead
