-- The terms of this crate, under one name.
pub use Rattle.std.proofs.Common.{◌≡◌, ℕ, zero, suc, ◌+◌, ◌<◌, List, [], ◌∷◌, length, Some, refl, sym, ap, ◌∙◌, subst, arith, All, ◌-◌, ◌≤◌, ◌++◌, drop, map}
pub use Rattle.std.specs.List.{AllZip, slice_get}
pub use Rattle.std.proofs.lemmas.List.{append-nil, take-append-drop, length-map}
pub use Rattle.script_workers.specs.Terms.{Seat}
pub use Rattle.mvrlu.specs.Meant.{numbers_of, opening_of, seat_of, handled}
pub use Rattle.mvrlu.specs.Whole.{Whole}
pub use Rattle.mvrlu.specs.declared.domain.Domain.{Domain}
pub use Rattle.run_report.proofs.history.Grown.{AreKnown, there_longer}
pub use Rattle.domain_loan.specs.Met.{HasMet, HaveMet}
pub use Rattle.domain_loan.specs.New.{AreNewFrom}
