-- compare_exchange HEAD (cut).
pub mod Cuts
pub mod CutWon
pub mod LostCut
pub mod CutHead
