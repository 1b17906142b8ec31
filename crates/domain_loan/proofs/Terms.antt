-- The terms of this crate, under one name.
pub use Rattle.std.proofs.Common.{◌≡◌, ◌<◌, List, [], ◌∷◌, ◌++◌, length, map, drop, get_or, sym, ap, ◌∙◌, subst, append_assoc, arith, All, ℕ, suc, ◌+◌, refl}
pub use Rattle.std.proofs.Common.{zero, ◌≤◌, Result, Ok, Err, vec_len, vec_capacity}
pub use Rattle.std.proofs.lemmas.List.{map-append, length-map}
pub use Rattle.std.proofs.lemmas.List.Elements.{All-head, All-nil, All-cons, length_all_zip, All-tail, All-weaker, All-contains, All-contains_itself, All-rest}
pub use mathlib.Core.Option.{some}
pub use lib.ListN.{get_elem?}
pub use Rattle.mv_history.specs.State.{State, Writes, maker_of, commits_of, rests_of}
pub use Rattle.mvrlu.specs.declared.domain.Domain.{Domain}
pub use Rattle.mvrlu.specs.declared.domain.Seat.{Seat}
pub use Rattle.mvrlu.specs.Meant.{seat_of, numbers_of, handled, IsSeatOf, opening_of, whole_of}
pub use Rattle.mvrlu.specs.Meeting.{AreAll, LawOfTheWhole}
pub use Rattle.domain_loan.specs.New.{AreNewFrom}
pub use Rattle.mv_core.proofs.Terms.{some-injective}
pub use Rattle.domain_loan.specs.Met.{AllContinue, HasMet, HaveMet}
pub use Rattle.std.specs.Prelude.{Contains, IfOk}
pub use Rattle.std.specs.List.{AllZip}
