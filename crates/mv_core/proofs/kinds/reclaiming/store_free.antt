-- store STAMP 0 (free).
pub mod FreedLog
pub mod FreedSets
pub mod FreedChains
pub mod FreedWalks
pub mod StoreFree
