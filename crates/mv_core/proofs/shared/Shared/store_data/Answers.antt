use Rattle.std.proofs.Common.{ℕ, ◌+◌, arith, refl, ap, ◌∙◌, mod-lt}
use Rattle.mv_layout.specs.Cells.{slot_cell_of}
use Rattle.mv_core.specs.Passes.{view, config_of}
use Rattle.mv_core.proofs.Terms.{Config, index_of}
use Rattle.mv_core.proofs.kinds.building.StoreData.{data_stores}
use Rattle.mv_core.proofs.shared.Shared.store_data.Goals as goal

pub store_as-requires-clause-rule : goal.store_as-requires-clause-rule
store_as-requires-clause-rule g c = data_stores _ _ _ _ (view c.args.pass.now) c.args.position c.args.word c.args.value g.version c.requires.1.1.1.1

pub store_as-requires-clause-moves : goal.store_as-requires-clause-moves
store_as-requires-clause-moves g c = record {
  may = c.requires.1.1.1.1;
  place = refl;
  writes = λ x. refl;
  entry = λ x. refl;
  view = λ x h w t. t;
  past = λ x h. refl;
}

pub store_as-requires-clause-place : goal.store_as-requires-clause-place
store_as-requires-clause-place g c =
    let s = c.args.self.now in
    let of = c.requires.1.1.0 in
    let at = c.requires.1.1.1.0 in
    let numbered = c.args.pass.now.numbered in
    let slots = ap (λ (d : Config). d.slots) s.about in (
      (
        omega (arith, of.1, numbered),
        mod-lt c.args.position (omega (arith, slots, s.checked.slots.0)),
        c.requires.1.1.1.1.in_range,
      ),
      ap (λ (n : ℕ). n + 4 + c.args.word)
          (at ∙ ap (λ (n : ℕ). slot_cell_of (config_of s) n (index_of (config_of s) c.args.position)) numbered),
    )

pub returns-clause-view : goal.returns-clause-view
returns-clause-view g c = c.store_as.ensures.tells
