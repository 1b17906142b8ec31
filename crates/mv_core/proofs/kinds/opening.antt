-- A new domain and its seats.
pub mod NewPasses
pub mod Laying
pub mod Starting
pub mod MakeSeat
pub mod KnownPasses
