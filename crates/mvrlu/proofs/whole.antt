-- That the history is whole once all seats are joined, and what follows.
pub mod Numbers
pub mod NoneLeft
pub mod Kept
pub mod Taken
pub mod Joins
pub mod Named
pub mod Loads
pub mod Met
pub mod Reads
