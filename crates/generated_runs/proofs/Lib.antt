pub mod columns
pub mod small
pub mod sifted
pub mod told
