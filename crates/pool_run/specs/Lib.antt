pub mod PoolRuns
