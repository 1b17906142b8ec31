-- What a reclaiming call leaves of a seat: its place is lawful, its history goes on, and its slots are counted.
use Rattle.std.proofs.Common.{◌≡◌, ◌≢◌, ℕ, ◌+◌, ◌≤◌, Bool, false, count_by, List, [], ◌∷◌, ◌++◌, length, drop, refl, sym, ap, ◌∙◌}
use Rattle.std.proofs.Common.{arith, length-append, subst}
use Rattle.std.proofs.lemmas.List.Sums.{sum_by-append}
use Rattle.mv_history.specs.State.{State, Writes}
use Rattle.mv_history.specs.Meaning.{IsSeat}
use Rattle.mv_history.specs.declared.Protocol.{Ghosts}
use Rattle.mv_history.specs.declared.Step.{Step}
use Rattle.mv_history.specs.declared.StepKind.{StepKind}
use Rattle.mv_history.specs.declared.StepKind.TheVariants.{NameCommit}
use Rattle.mv_history.specs.Trail.{is_commit_exchange, commit_exchanges}
use Rattle.mv_history.specs.Calls.{Prepares}
use Rattle.mv_layout.specs.declared.Config.{Config}
use Rattle.object_lock.specs.mv_core.declared.shared.Shared.{Shared}
use Rattle.object_lock.specs.mv_core.declared.shared.Pass.{Pass}
use Rattle.object_lock.specs.mv_core.declared.view.Knowledge.{Knowledge}
use Rattle.object_lock.specs.mv_core.Passes.{view, config_of, IsSame}
use Rattle.object_lock.specs.mv_core.Rings.{spare_count}
use Rattle.object_lock.specs.mv_core.Known.{Known}
use Rattle.object_lock.proofs.mv_core_lemmas.logs.Counts.{one_if}
use Rattle.object_lock.specs.seat_log.Notes.{Noted}
use Rattle.object_lock.specs.seat_log.Stands.{is_free, Stands}
use Rattle.log_reclaim.specs.Parts.{IsReclaimKind, Reclaims, Shrinks, grace_load}
use Rattle.log_reclaim.specs.Rounds.{FreesFirst}
use Rattle.mvrlu.specs.declared.places.SeatState.{SeatState}
use Rattle.mvrlu.specs.Placed.{Placed, placed, seat_from, IsIdle, Fits}
use Rattle.mvrlu.proofs.Names.{fits_on}
use Rattle.mvrlu.proofs.Behind.{Lent}
use Rattle.mvrlu.proofs.Lawful.{seat_lawful}
use Rattle.mvrlu.proofs.Trails.{made as made_since, none_named}
use Rattle.mvrlu.proofs.Continuing.{continues, placed_on}

no_name : (k : StepKind) → IsReclaimKind k → is_commit_exchange k ≡ false
no_name NameCommit h = absurd h
no_name _ h = refl

module _ (starts : State → Type 0) (allows : List ℕ → State → Writes → Type 0) (p q : Placed) (made : List Step) (config : q.config ≡ p.config)
    (table : q.table ≡ p.table) (idle : IsIdle starts allows p) (reclaims : Reclaims p.view q.view made) (known : ∥ Known starts allows q.view ∥₁)
    (stands : Stands q.config q.view q.log) where
  -- the call's steps
  pub trail_is : drop (length p.view.trail) q.view.trail ≡ made
  trail_is = made_since p.view.trail q.view.trail made reclaims.trail

  number_is : q.view.number ≡ p.view.number
  number_is = ap (λ (x : Knowledge). x.number) reclaims.rest

  base_is : q.view.base ≡ p.view.base
  base_is = ap (λ (x : Knowledge). x.base) reclaims.rest

  pub idle_after : q.log.built ≡ p.log.built → IsIdle starts allows q
  idle_after built = record {
    placed = placed_on starts allows p q config idle.placed number_is base_is known stands (built ∙ idle.placed.unbuilt);
    outside = record { outside = reclaims.outside; no_scan = reclaims.no_scan };
  }

  pub prepared : Prepares (seat_from p) (seat_from q)
  prepared = record {
    continues = continues p q config table made number_is (ap (λ (x : Knowledge). x.start) reclaims.rest) base_is reclaims.seen reclaims.trail;
    mine = reclaims.mine;
    names_no_commit = ap commit_exchanges trail_is ∙ none_named IsReclaimKind no_name made reclaims.kinds;
  }

  -- the slots that the call freed, by one step each
  pub freed_is : (freed : ℕ) → Shrinks p.log q.log freed → freed ≡ count_by is_free (drop (length p.view.trail) q.view.trail)
  freed_is freed k =
      let was = idle.placed.stands.frees in
      let is = stands.frees in
      let more : count_by is_free (p.view.trail ++ made) ≡ count_by is_free p.view.trail + count_by is_free made =
      sum_by-append (λ s. one_if (is_free s)) p.view.trail made in
      let all : count_by is_free q.view.trail ≡ count_by is_free (p.view.trail ++ made) = ap (count_by is_free) reclaims.trail in
      let sum : q.log.freed ≡ p.log.freed + freed = ap (λ (l : Noted). l.freed) k.rest in
      let here : count_by is_free (drop (length p.view.trail) q.view.trail) ≡ count_by is_free made = ap (count_by is_free) trail_is in
      omega arith

  pub spare_is : (freed : ℕ) → Shrinks p.log q.log freed → spare_count q.view.ring ≡ spare_count p.view.ring + freed
  spare_is freed k =
      let was = idle.placed.stands.spare in
      let is = stands.spare in
      let slots : q.config.slots ≡ p.config.slots = ap (λ (d : Config). d.slots) config in
      let few = k.few in
      omega arith

  pub live_is : (live : ℕ) → live ≡ length q.log.live → live + spare_count q.view.ring ≡ q.config.slots
  live_is live is = let all = stands.spare in omega arith

  pub some_step : (tidies : Bool) → FreesFirst q.config p.log made tidies → drop (length p.view.trail) q.view.trail ≢ []
  some_step tidies first e =
      let is : grace_load q.config first.time ∷ (first.frees ++ first.rest) ≡ [] = sym first.made_is ∙ sym trail_is ∙ e in
      absurd cc

  pub few_steps : (n : ℕ) → length q.view.trail ≤ length p.view.trail + n → length (drop (length p.view.trail) q.view.trail) ≤ n
  few_steps n few =
      let long : length q.view.trail ≡ length p.view.trail + length made = ap length reclaims.trail ∙ length-append p.view.trail made in
      let here : length (drop (length p.view.trail) q.view.trail) ≡ length made = ap length trail_is in
      omega arith

-- what a round and a tidy both leave of a seat, of which they have had this place
pub record HasReclaimed {P : Type 0} {g : Ghosts P} (s : Shared P) (old : Placed) (pass : Pass P g) (log : Noted) : Type 0 where
  pub fits : Fits s (placed pass log)
  pub idle : IsIdle g.start g.allowed (placed pass log)
  pub lawful : IsSeat g.start g.allowed (seat_from (placed pass log))
  pub aborts : log.aborts ≡ old.log.aborts

module _ {P : Type 0} {g : Ghosts P} {s : Shared P} {old : Placed} {i : SeatState P g} (l : Lent s (IsIdle g.start g.allowed) old i) (pass : Pass P g)
    (log : Noted) (same : IsSame i.pass pass) (freed : ℕ) (shrinks : Shrinks i.log log freed) (stands : Stands (config_of s) (view pass) log)
    (made : List Step) (reclaims : Reclaims (view i.pass) (view pass) made) where
  idle_on : IsIdle g.start g.allowed (placed pass log)
  idle_on =
      idle_after g.start g.allowed (placed i.pass i.log) (placed pass log) made same.2 same.0 l.is reclaims pass.known
      (subst (λ (d : Config). Stands d (view pass) log) (l.config ∙ sym same.2) stands) (ap (λ (n : Noted). n.built) shrinks.rest)

  pub has_reclaimed : HasReclaimed s old pass log
  has_reclaimed = record {
    fits = fits_on s i.pass pass i.log log same l.fits;
    idle = idle_on;
    lawful = seat_lawful g.start g.allowed g.one_start g.one_allowed (placed pass log) idle_on.placed;
    aborts = ap (λ (n : Noted). n.aborts) shrinks.rest ∙ ap (λ (x : Placed). x.log.aborts) l.view_is;
  }
