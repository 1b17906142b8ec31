pub mod NewSeats
pub mod Rooms
pub mod Vacancies
