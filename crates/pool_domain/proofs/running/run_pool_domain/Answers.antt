use Rattle.mvrlu.specs.Meant.{seat_of, whole_of}
use Rattle.mvrlu.specs.Whole.{last_state}
use Rattle.domain_lines.specs.Joined.{past_of_whole}
use Rattle.pool_domain.proofs.Terms.{◌∙◌, sym, refl, subst, length-map, catalogue_of, IsOpening, IsSetCommit, as_many, one_history, PoolOf}
use Rattle.pool_domain.proofs.OnePool.{all_went_on, pool_met}
use Rattle.pool_domain.proofs.running.run_pool_domain.Goals as goal

-- all seats of the domain came back
pub meet_all-requires : goal.meet_all-requires
meet_all-requires g c =
    let on = all_went_on _ _ _ _ c.in-Ok.ensures.ran in
    record { gone_on = (_, c.requires.new, on); all = as_many c.args.seats.items c.in-Ok.seats.items _ on c.requires.all }

-- Their meeting knows the whole history, which begins with the opening state, and each seat went along its chain.
pub returns-in-Ok : goal.returns-in-Ok
returns-in-Ok g c =
    let w = whole_of c.meet_all.result in
    let met = c.meet_all.ensures.met _ c.requires.new (all_went_on _ _ _ _ c.in-Ok.ensures.ran) in
    let count = length-map c.args.seats.items seat_of in
    let history = one_history c.args.domain _ IsOpening IsSetCommit _ _ _ c.requires.opening c.requires.new met refl (sym (count ∙ c.requires.all)) in
    record {
      ran = subst (λ n. PoolOf (past_of_whole w) n c.args.commands.now c.in-Ok.lines.items (catalogue_of (last_state w)) w.tables) count
          (pool_met _ _ _ _ _ _ history c.in-Ok.ensures.ran);
      linked = record { met = _; whole = met; along = c.in-Ok.ensures.linked };
      opening = (met.opening, met.base);
      err = tt;
    }
