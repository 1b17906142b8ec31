-- What the walks of this crate speak of and cite, under one name.
pub use Rattle.std.proofs.Common.{◌≡◌, List, [], ◌∷◌, ◌++◌, Bool, true, refl, sym, ap, subst, ◌∙◌}
pub use mir.Syntax.{a_type, dcons, dnil}
pub use mir.Raw.{raw as bare}
pub use mir.Val.{Val, vptr}
pub use mir.MapTy.{inst_fn}
pub use base.Logic.{SProp, ent, never, id⊢, fst∗, emp}
pub use base.Fml.{ftrue, flft}
pub use prog.Wp.{WpFn}
pub use types.Logic.{sem}
pub use types.Kit.{‵, raw, ◌⊛◌, some, later, ◌$◌, ◌∵◌, !, qed, by, move, keep, drop, split, split3, join, fsplit, fjoin, pick, suffices, use1, await}
pub use types.Kit.{rewrite, feq_i, prop, use0, regoal, feq_l}
pub use types.Run.{stop, fld, of_opd, no_more, and_then, returns, enter}
pub use types.ByLocal.{alloc_all, pass_all, free_all, look_at, get, get_in, sets}
pub use types.Part.{sub, whole, agg}
pub use contract.Monad.{fact, fact_i}
pub use contract.Running.{tables}
pub use denote.Exit.{no}
pub use denote.RattleType.{RattleType, owns}
pub use denote.Signature.{types_at, plain}
pub use denote.RawPtr.{block_ptr, null_ptr, ptr_val, in_a_block}
pub use denote.Steps.{nothing, only, heard}
pub use denote.Param.{param, layout, bounded}
pub use denote.Param.Laws.{param_laws}
pub use denote.Triple.Spec.{triple_of}
pub use denote.Triple.Walked.{Stays, stay_dropped, walk_of, Goes-dropped}
pub use Rattle.core.proofs.alloc.Calls.{Goes-blank, handle_tells}
pub use Rattle.core.proofs.atomic.Steps.{fm}
pub use Rattle.std_alloc.specs.Box.Ownership.{box_owns}
pub use Rattle.std_alloc.proofs.BoxSteps.Steps.{box_out, box_in}
pub use Rattle.std.proofs.raw_atomic.Walks.{proved_at, leaves}
pub use Rattle.mvrlu_c.specs.Held.{held_if}
pub use Rattle.mvrlu_c.proofs.Values.{both, Loose, loose_good, loose_out, loose_in}
pub use denote.Triple.Entry.{alive}
pub use denote.Struct.Tuple.{Tuple}
