use Rattle.mvrlu.specs.Meant.{seat_of}
use Rattle.script_workers.specs.Workers.{blocks_of}
use Rattle.block_domain.proofs.Terms.{◌∙◌, sym, length-map, IsOpening, IsBlockCommit, as_many, one_history}
use Rattle.block_domain.proofs.OneRun.{all_continue, blocks_met}
use Rattle.block_domain.proofs.running.run_block_domain.Goals as goal

-- all seats of the domain came back
pub meet_all-requires : goal.meet_all-requires
meet_all-requires g c =
    let on = all_continue _ _ _ _ c.in-Ok.ensures.ran in
    record { gone_on = (_, c.requires.new, on); all = as_many c.args.seats.items c.in-Ok.seats.items _ on c.requires.all }

-- Their meeting knows the whole history, which begins with the opening state, and each seat went along its chain.
pub returns-in-Ok : goal.returns-in-Ok
returns-in-Ok g c =
    let met = c.meet_all.ensures.met _ c.requires.new (all_continue _ _ _ _ c.in-Ok.ensures.ran) in
    let count = length-map c.args.scripts.now blocks_of ∙ c.requires.as_many in
    let history = one_history c.args.domain _ IsOpening IsBlockCommit _ _ _ c.requires.opening c.requires.new met
    (length-map c.args.seats.items seat_of ∙ sym count) (sym (count ∙ c.requires.all)) in
    record {
      ran = blocks_met _ _ _ _ _ _ history c.in-Ok.ensures.ran;
      linked = record { met = _; whole = met; along = c.in-Ok.ensures.linked };
      opening = (met.opening, met.base);
      err = tt;
    }
