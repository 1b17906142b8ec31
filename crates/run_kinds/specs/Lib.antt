pub mod Kinds
-- Passed on to the crates above: the definitions of domain_lines, domain_loan and mvrlu.
pub use Rattle.domain_lines.specs as domain_lines
pub use Rattle.domain_loan.specs as domain_loan
pub use Rattle.mvrlu.specs as mvrlu
