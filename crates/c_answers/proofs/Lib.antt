pub mod Numbers
pub mod SaidBlocks
