use Rattle.std.proofs.Common.{◌≡◌, ◌+◌, ◌<◌, ◌≤◌, ℕ, vec_len}
use Rattle.mv_core.proofs.Terms.{some, get_elem?, new_view, view, IsOf, config_of, start_of}
use Rattle.mv_core.specs.declared.shared.Pass.{Pass}
use Rattle.mv_core.specs.Start.{maker_view}
use Rattle.mv_core.proofs.shared.Shared.make_all.Given as goal

abbrev pub invariant-loop-number : goal.invariant-loop-number
invariant-loop-number g l = record {
  first : IsOf l.self l.first;
  made : view l.first ≡ maker_view (config_of l.self) (start_of l.self) l.number;
  some_made : 0 < l.number;
  within : l.number ≤ (config_of l.self).seats;
  count : vec_len l.others + 1 ≡ l.number;
  others : (k : ℕ) (p : Pass _ g.P.Protocol) → get_elem? l.others.items k ≡ some p
      → IsOf l.self p × (p.number ≡ k + 1) × (view p ≡ new_view (config_of l.self) (start_of l.self) (k + 1) 0);
}
