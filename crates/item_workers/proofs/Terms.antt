-- The terms of this crate, under one name.
pub use Rattle.std.proofs.Common.{ℕ, ◌+◌, ◌<◌, ◌^◌, List, [], ◌∷◌, map, sum_by, All, Vec, ◌++◌, ◌≡◌, suc, length, refl, ap, subst, arith, get_or, ◌≤◌, take}
pub use Rattle.std.proofs.Common.{drop, Some, slice_get, sym, ◌∙◌, append_assoc, true-eqb, vec_len, vec_capacity}
pub use Rattle.std.specs.declared.alloc.Global.{Global}
pub use Rattle.std.specs.List.{AllZip}
pub use Rattle.std.proofs.lemmas.List.{drop_more, drop_all, take_all, length-map, map-append, nil_from_length, take_more}
pub use Rattle.std.proofs.lemmas.Option.{slice_get_within, get_or_from_slice_get}
pub use Rattle.std.proofs.lemmas.List.Elements.{All-push, All-head, All-tail}
pub use Rattle.mv_history.specs.Meaning.{Seat}
pub use Rattle.item_workers.specs.declared.runner.Answer.{Answer}
pub use Rattle.item_workers.specs.Chains.{Chain, DidTo, EachDid, DidAll, HaveNumbers, answered}
pub use Rattle.item_workers.specs.Workers.{MayDo, RanBy, keeps, stands_at, source_of, answers_of, IsReady, AreRooms, items_of}
pub use Rattle.item_workers.specs.OwnLists.{IsAt, GaveOwn, AreOwn}
pub use Rattle.item_workers.specs.Serving.{Serves, EachServed, IsGiven}
