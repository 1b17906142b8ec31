pub mod GrownBuckets
