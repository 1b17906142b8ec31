-- Helping a named commit.
pub mod LoadNamed
pub mod LoadCheck
pub mod stamp
