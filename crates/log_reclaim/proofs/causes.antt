-- Who holds a log, as a round or a tidy answers it, and why.
pub mod AloneSeen
pub mod EndCause
pub mod FreshTimes
pub mod HolderCases
pub mod RoundCauses
pub mod ScanCauses
pub mod TidyCauses
