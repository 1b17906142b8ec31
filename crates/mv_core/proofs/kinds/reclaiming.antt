-- Watermarks, writing back and freeing.
pub mod Scans
pub mod Graces
pub mod LoadSuper
pub mod StoreMaster
pub mod cut_head
pub mod store_free
