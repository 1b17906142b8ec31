pub mod Opened
pub mod Along
pub mod InOrder
-- Passed on to the crates above: the lemmas of domain_lines, domain_loan and mvrlu.
pub use Rattle.domain_lines.proofs as domain_lines_lemmas
pub use Rattle.domain_loan.proofs as domain_loan_lemmas
pub use Rattle.mvrlu.proofs as mvrlu_lemmas
