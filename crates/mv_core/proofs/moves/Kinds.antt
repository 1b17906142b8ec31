-- Each kind of step on one word keeps all facts: the last lemma of its folder under `kinds`, with the very view and history that the move has.
use Rattle.std.proofs.Common.{ℕ, ◌+◌, List, sym, refl, ap, ◌∙◌, subst}
use Rattle.mv_core.proofs.Terms.{Change, Rest, State, Writes, Config, Clock, Stamp, Super, clock_time_of, link_of, link_seat_of, index_of, Knowledge}
use Rattle.mv_core.specs.EnterSteps.{IsWhole}
use Rattle.mv_core.specs.WalkSteps.{stamp_loaded}
use Rattle.mv_core.specs.NameSteps.{commit_of, commit_word, commit_named, commit_lost, rest_word, rest_named, rest_lost}
use Rattle.mv_core.specs.ReclaimSteps.{super_loaded}
use Rattle.mv_core.specs.Moves.{MoveKind, load_low, store_mark, load_time, clear_mark, load_named, load_check, stamp, load_head, load_first, load_stamp}
use Rattle.mv_core.specs.Moves.{load_prev, load_data, load_master, store_built, store_data, load_death, lock_head, unlock_head, name_commit, store_super}
use Rattle.mv_core.specs.Moves.{name_rest, load_scan, load_mark, load_grace, raise_grace, load_super, store_master, cut_head, store_free, load_joined, act}
use Rattle.mv_core.proofs.kinds.entering.LoadLow.{low_loads}
use Rattle.mv_core.proofs.kinds.entering.StoreMark.{mark_stores}
use Rattle.mv_core.proofs.kinds.entering.LoadTime.{time_loads}
use Rattle.mv_core.proofs.kinds.entering.ClearMark.{mark_clears}
use Rattle.mv_core.proofs.kinds.helping.LoadNamed.{named_loads}
use Rattle.mv_core.proofs.kinds.helping.LoadCheck.{check_loads}
use Rattle.mv_core.proofs.kinds.helping.stamp.SwapStamp.{stamp_swaps}
use Rattle.mv_core.proofs.kinds.walking.LoadHead.{head_loads}
use Rattle.mv_core.proofs.kinds.walking.LoadFirst.{first_loads}
use Rattle.mv_core.proofs.kinds.walking.LoadStamp.{stamp_loads}
use Rattle.mv_core.proofs.kinds.walking.LoadPrev.{prev_loads}
use Rattle.mv_core.proofs.kinds.walking.LoadData.{data_loads}
use Rattle.mv_core.proofs.kinds.walking.LoadMaster.{master_loads}
use Rattle.mv_core.proofs.kinds.building.StoreBuilt.{built_stores}
use Rattle.mv_core.proofs.kinds.building.StoreData.{data_stores}
use Rattle.mv_core.proofs.kinds.building.LoadDeath.{death_loads}
use Rattle.mv_core.proofs.kinds.locking.lock_head.LockHead.{lock_swaps}
use Rattle.mv_core.proofs.kinds.locking.unlock_head.UnlockHead.{unlock_stores}
use Rattle.mv_core.proofs.kinds.naming.name_commit.NameCommit.{commit_swaps}
use Rattle.mv_core.proofs.kinds.naming.StoreSuper.{super_stores}
use Rattle.mv_core.proofs.kinds.naming.NameRest.{rest_swaps}
use Rattle.mv_core.proofs.kinds.reclaiming.Scans.{scan_loads, mark_loads}
use Rattle.mv_core.proofs.kinds.reclaiming.Graces.{grace_loads, grace_raises}
use Rattle.mv_core.proofs.kinds.reclaiming.LoadSuper.{super_loads}
use Rattle.mv_core.proofs.kinds.reclaiming.StoreMaster.{master_stores}
use Rattle.mv_core.proofs.kinds.reclaiming.cut_head.CutHead.{cut_swaps}
use Rattle.mv_core.proofs.kinds.reclaiming.store_free.StoreFree.{free_stores}
use Rattle.mv_core.proofs.kinds.joining.LoadJoined.{joined_loads}
use Rattle.mv_core.proofs.moves.LaterHistory.{stays, was, longer_is, whole_is, sees_now, seen_to_is, seen_at_is}
use Rattle.mv_core.proofs.moves.Kept.{Keeps, load_keeps, clock_keeps, store_keeps, raise_keeps, swap_keeps}

module _ (starts : State → Type 0) (allows : List ℕ → State → Writes → Type 0) (c : Config) (start : State) (v : Knowledge) where
  abbrev Kept : MoveKind → Type 0
  Kept k = (act allows c v k).may → Keeps starts allows c start v (act allows c v k)

  pub kept : (k : MoveKind) → Kept k
  kept load_low may = load_keeps starts allows c start v _ _ _ _ (low_loads starts allows c start v may) (λ m h seats w k t. t.0.0)
  kept (store_mark low) may = store_keeps starts allows c start v _ _ _ _ _ (mark_stores starts allows c start v low (1 + low) refl may) (λ w t. t.0) refl
  kept load_time may = clock_keeps starts allows c start v _ _ _ (time_loads starts allows c start v may) (λ n w t. t.0) (λ n h. refl)
  kept clear_mark may = store_keeps starts allows c start v _ _ _ _ _ (mark_clears starts allows c start v may) (λ w t. t.0) refl
  kept (load_named word) may = load_keeps starts allows c start v _ _ _ _ (named_loads starts allows c start v word may) (λ m h seats w k t. t.0)
  kept load_check may = clock_keeps starts allows c start v _ _ _ (check_loads starts allows c start v) (λ n w t. t.0.0) (λ n h. refl)
  kept (stamp word unset) may =
      swap_keeps starts allows c start v _ _ _ _ _ _ _ _ _ (stamp_swaps starts allows c start v word unset may (clock_time_of word) refl)
      (λ m h longer seats w k is hit l t. let e = t.0 in (e, stays seats v w is k l (ap (λ (u : Knowledge). u.past) e)))
      (λ m h seats w miss l t. t.0)
  kept (load_head object inside) may =
      load_keeps starts allows c start v _ _ _ _ (head_loads starts allows c start v object inside may) (λ m h seats w k t. t.0.0)
  kept (load_first link stand) may = load_keeps starts allows c start v _ _ _ _ (first_loads starts allows c start v link stand may) (λ m h seats w k t. t.0)
  kept (load_stamp link first stand) may =
      load_keeps starts allows c start v _ _ _ _ (stamp_loads starts allows c start v first stand link may)
      (λ m h seats w k t.
      let n : ℕ = m (Stamp (link_seat_of link) (index_of c first)) in
      let sees = t.0.1.sees in
      t.0.0 ∙ ap (stamp_loaded c v stand first n) (seen_at_is c v h w.past.seen (sees_now seats v w k) sees.more n sees.least sees.time k.history.in_time))
  kept (load_prev link stand) may = load_keeps starts allows c start v _ _ _ _ (prev_loads starts allows c start v link stand may) (λ m h seats w k t. t.0.0)
  kept (load_data link word stand inside) may =
      load_keeps starts allows c start v _ _ _ _ (data_loads starts allows c start v link word stand inside may) (λ m h seats w k t. t.0.0)
  kept (load_master object word inside) may =
      load_keeps starts allows c start v _ _ _ _ (master_loads starts allows c start v object word inside may.0 may.1) (λ m h seats w k t. t.0.0)
  kept (store_built position field value build) may =
      store_keeps starts allows c start v _ _ _ _ _ (built_stores starts allows c start v position field value build may) (λ w t. t.0.0) refl
  kept (store_data position word value version) may =
      store_keeps starts allows c start v _ _ _ _ _ (data_stores starts allows c start v position word value version may) (λ w t. t.0) refl
  kept load_death may = clock_keeps starts allows c start v _ _ _ (death_loads starts allows c start v) (λ n w t. t.0.0) (λ n h. refl)
  kept (lock_head object previous position words build inside) may =
      swap_keeps starts allows c start v _ _ _ _ _ _ _ _ _
      (lock_swaps starts allows c start v c.write_max object previous position words build inside may (link_of v.number position) refl)
      (λ m h longer seats w k is hit l t. let e = t.0.0 refl in (e, stays seats v w is k l (ap (λ (u : Knowledge). u.past) e)))
      (λ m h seats w miss l t. t.0.1 miss)
  kept (unlock_head object previous slot version inside) may =
      store_keeps starts allows c start v _ _ _ _ _ (unlock_stores starts allows c start v object previous slot version inside may) (λ w t. t.0) refl
  kept (name_commit word tag inside) may =
      swap_keeps starts allows c start v _ _ _ _ _ _ _ _ _ (commit_swaps starts allows c start v word tag inside may (commit_word c v word) refl)
      (λ m h longer seats w k is hit l t.
      let r = t.0.0.0 refl in
      let whole : IsWhole c v (m Clock) r.0 = subst (λ (n : ℕ). IsWhole c v n r.0) (sym hit) r.1 in
      let seen = ap (λ (u : Knowledge). u.past.seen) r.2 in (
        r.2 ∙ ap (commit_named c v inside tag word) (was seats v w is k l r.0 (Change (commit_of c v inside tag)) whole seen),
        longer_is seats v w is k l r.0 (Change (commit_of c v inside tag)) whole seen,
      ))
      (λ m h seats w miss l t.
      let r = t.0.0.1 miss in
      r.2 ∙ ap (commit_lost c v (m Clock)) (whole_is seats v w r.0 l r.1 (ap (λ (u : Knowledge). u.past.seen) r.2)))
  kept (store_super link time slot version note) may =
      store_keeps starts allows c start v _ _ _ _ _ (super_stores starts allows c start v link time slot version note may) (λ w t. t.0) refl
  kept (name_rest word) may =
      swap_keeps starts allows c start v _ _ _ _ _ _ _ _ _ (rest_swaps starts allows c start v word may (rest_word v word) refl)
      (λ m h longer seats w k is hit l t.
      let r = t.0.0.0 refl in
      let whole : IsWhole c v (m Clock) r.0 = subst (λ (n : ℕ). IsWhole c v n r.0) (sym hit) r.1 in
      let seen = ap (λ (u : Knowledge). u.past.seen) r.2 in
      (r.2 ∙ ap (rest_named c v word) (was seats v w is k l r.0 (Rest v.number) whole seen), longer_is seats v w is k l r.0 (Rest v.number) whole seen))
      (λ m h seats w miss l t.
      let r = t.0.0.1 miss in
      r.2 ∙ ap (rest_lost c v (m Clock)) (whole_is seats v w r.0 l r.1 (ap (λ (u : Knowledge). u.past.seen) r.2)))
  kept load_scan may = clock_keeps starts allows c start v _ _ _ (scan_loads starts allows c start v may) (λ n w t. t.0.0) (λ n h. refl)
  kept (load_mark seat scan) may = load_keeps starts allows c start v _ _ _ _ (mark_loads starts allows c start v seat scan may) (λ m h seats w k t. t.0)
  kept load_grace may = load_keeps starts allows c start v _ _ _ _ (grace_loads starts allows c start v) (λ m h seats w k t. t.0)
  kept (raise_grace time) may = raise_keeps starts allows c start v _ _ _ _ _ (grace_raises starts allows c start v time may) (λ n w t. t.0)
  kept (load_super position version note) may =
      load_keeps starts allows c start v _ _ _ _ (super_loads starts allows c start v position version note may)
      (λ m h seats w k t.
      let n : ℕ = m (Super v.number (index_of c position)) in
      let sees = t.0.1 in
      t.0.0 ∙ ap (super_loaded c v position version note n) (seen_to_is c v h w.past.seen (sees_now seats v w k) sees.more n sees.least sees.time))
  kept (store_master object word value position version note inside) may =
      store_keeps starts allows c start v _ _ _ _ _
      (master_stores starts allows c start v object word value position version note inside may) (λ w t. t.0) refl
  kept (cut_head object position version note) may =
      swap_keeps starts allows c start v _ _ _ _ _ _ _ _ _ (cut_swaps starts allows c start v object position version note may (link_of v.number position) refl)
      (λ m h longer seats w k is hit l t. let e = t.0.0.0 refl in (e, stays seats v w is k l (ap (λ (u : Knowledge). u.past) e)))
      (λ m h seats w miss l t. t.0.0.1 miss)
  kept (store_free position) may = store_keeps starts allows c start v _ _ _ _ _ (free_stores starts allows c start v position may) (λ w t. t.0) refl
  kept load_joined may = clock_keeps starts allows c start v _ _ _ (joined_loads starts allows c start v) (λ n w t. (t.0.0.0, t.0.0.1, t.0.0.3)) (λ n h. refl)
